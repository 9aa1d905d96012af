-- What shares give: Lagrange's interpolation at 0.
use Rattle.std.specs.Prelude.{ℕ, List, [], ◌∷◌, map, fold, bit_xor, nat_eq, slice_index_or, if◌then◌else◌}
use Rattle.gl_shares.specs.declared.share.Share.{Share}
use Rattle.gl_shares.specs.Field.{field_product, inverse_of}
use Rattle.gl_shares.specs.Dealing.{each_byte}

-- What a point gives to the weight of another: itself, divided by its difference from it. Nothing
-- to its own.
unfoldable pub quotient : ℕ → ℕ → ℕ
quotient point other = if nat_eq other point then 1
    else field_product other (inverse_of (bit_xor other point))

-- the weight at 0 of a point's value among these points
unfoldable pub weight : ℕ → List ℕ → ℕ
weight point points = fold (λ product other. field_product product (quotient point other)) 1 points

-- the members of these shares
abbrev pub members_of : List Share → List ℕ
members_of shares = map (λ (s : Share). s.member) shares

-- the sum of one byte of these shares, each times the weight of its member among these
unfoldable pub weighted_sum : List ℕ → List Share → ℕ → ℕ
weighted_sum members [] byte = 0
weighted_sum members (s ∷ shares) byte = bit_xor
    (field_product (slice_index_or s.value byte 0) (weight s.member members))
    (weighted_sum members shares byte)

-- the 32 bytes that these shares give
unfoldable pub joined : List Share → List ℕ
joined shares = each_byte (weighted_sum (members_of shares) shares)
