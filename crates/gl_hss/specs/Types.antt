-- The parameter sets (RFC 8554, tables 1 and 2).
use Rattle.std.specs.Prelude.{ℕ, ◌+◌, ◌*◌, Option, Some, None, if◌then◌else◌, ◌==◌}
use Rattle.gl_hss.specs.declared.types.Types.{Types}
use Rattle.gl_hss.specs.declared.types.Types.TheVariants.{H5W4, H5W8, H10W4, H10W8}

-- h, the height of the tree (5.1)
abbrev pub height : Types → ℕ
height H5W4 = 5
height H5W8 = 5
height H10W4 = 10
height H10W8 = 10

-- w, the width in bits of a digit (4.1)
abbrev pub width : Types → ℕ
width H5W4 = 4
width H5W8 = 8
width H10W4 = 4
width H10W8 = 8

-- p, the number of chains of a one-time key (4.1)
abbrev pub chain_count : Types → ℕ
chain_count H5W4 = 67
chain_count H5W8 = 34
chain_count H10W4 = 67
chain_count H10W8 = 34

-- ls, the shift to the left of the checksum (4.1)
abbrev pub checksum_shift : Types → ℕ
checksum_shift H5W4 = 4
checksum_shift H5W8 = 0
checksum_shift H10W4 = 4
checksum_shift H10W8 = 0

-- the typecode of LMS_SHA256_M32_H5 or LMS_SHA256_M32_H10 (5.1)
abbrev pub lms_code : Types → ℕ
lms_code H5W4 = 5
lms_code H5W8 = 5
lms_code H10W4 = 6
lms_code H10W8 = 6

-- the typecode of LMOTS_SHA256_N32_W4 or LMOTS_SHA256_N32_W8 (4.1)
abbrev pub ots_code : Types → ℕ
ots_code H5W4 = 3
ots_code H5W8 = 4
ots_code H10W4 = 3
ots_code H10W8 = 4

-- the number of bytes of an LMS signature (5.4): three numbers of four bytes, C, y and the path
abbrev pub signature_len : Types → ℕ
signature_len t = 12 + 32 * (1 + chain_count t + height t)

-- the parameter set that has these typecodes, if there is one
abbrev pub types_of : ℕ → ℕ → Option Types
types_of lms ots =
    if lms == 5 then (if ots == 3 then Some H5W4 else (if ots == 4 then Some H5W8 else None))
    else (if lms == 6
    then (if ots == 3 then Some H10W4 else (if ots == 4 then Some H10W8 else None))
    else None)
