-- The texts of faults: a name, and the values after it.
use Rattle.std.specs.Prelude.{ℕ, List, [], ◌∷◌, ◌++◌, codes, decimal}
use Rattle.hex.specs.Hex.{encode_lower}
use Rattle.clap.specs.declared.error.kind.ErrorKind.{ErrorKind}
use Rattle.clap.specs.declared.error.kind.ErrorKind.TheVariants as kinds
use Rattle.gl_base.specs.declared.json.FormsFault.{FormsFault}
use Rattle.gl_base.specs.declared.json.FormsFault.TheVariants as forms
use Rattle.gl_hss.specs.declared.fault.HssFault.{HssFault}
use Rattle.gl_hss.specs.declared.fault.HssFault.TheVariants as hss
use Rattle.gl_journal.specs.Records.{key_kind_tag}
use Rattle.gl_journal.specs.declared.fault.JournalFault.{JournalFault}
use Rattle.gl_journal.specs.declared.fault.JournalFault.TheVariants as journals
use Rattle.gl_journal.specs.declared.key.KeyKind.{KeyKind}
use Rattle.gl_receipt.specs.declared.fault.ReceiptFault.{ReceiptFault}
use Rattle.gl_receipt.specs.declared.fault.ReceiptFault.TheVariants as receipts

-- The name of a kind of fault that the library for command lines finds.
abbrev pub kind_name : ErrorKind → List ℕ
kind_name kinds.InvalidValue = codes "InvalidValue"
kind_name kinds.UnknownArgument = codes "UnknownArgument"
kind_name kinds.InvalidSubcommand = codes "InvalidSubcommand"
kind_name kinds.NoEquals = codes "NoEquals"
kind_name kinds.ValueValidation = codes "ValueValidation"
kind_name kinds.TooManyValues = codes "TooManyValues"
kind_name kinds.TooFewValues = codes "TooFewValues"
kind_name kinds.WrongNumberOfValues = codes "WrongNumberOfValues"
kind_name kinds.ArgumentConflict = codes "ArgumentConflict"
kind_name kinds.MissingRequiredArgument = codes "MissingRequiredArgument"
kind_name kinds.MissingSubcommand = codes "MissingSubcommand"
kind_name kinds.DisplayHelp = codes "DisplayHelp"
kind_name kinds.DisplayHelpOnMissingArgumentOrSubcommand =
    codes "DisplayHelpOnMissingArgumentOrSubcommand"
kind_name kinds.DisplayVersion = codes "DisplayVersion"
kind_name kinds.Io = codes "Io"
kind_name kinds.Format = codes "Format"
kind_name kinds.OutOfMemory = codes "OutOfMemory"

-- A path as it stands; that of the whole text, which is empty, as a full stop.
abbrev pub path_text : List ℕ → List ℕ
path_text [] = codes "."
path_text (byte ∷ path) = byte ∷ path

-- Why JSON is no receipt, or not what is to be signed.
abbrev pub form_text : FormsFault → List ℕ
form_text forms.NotJson = codes "NotJson"
form_text (forms.Shape path) = codes "Shape " ++ path_text path
form_text (forms.Hex path) = codes "Hex " ++ path_text path

-- What is wrong with a signature. Where two values are reported, the one that is wanted comes
-- first.
abbrev pub hss_text : HssFault → List ℕ
hss_text (hss.Types at) = codes "Types " ++ decimal at
hss_text (hss.Length want got) = codes "Length " ++ decimal want ++ codes " " ++ decimal got
hss_text (hss.Levels want got) = codes "Levels " ++ decimal want ++ codes " " ++ decimal got
hss_text (hss.Root want got) = codes "Root " ++ encode_lower want ++ codes " " ++ encode_lower got
hss_text (hss.Leaf q) = codes "Leaf " ++ decimal q

-- Why a receipt is not valid.
abbrev pub receipt_text : ReceiptFault → List ℕ
receipt_text receipts.Evidence = codes "Evidence"
receipt_text (receipts.Hss fault) = codes "Hss " ++ hss_text fault

-- Why the bytes of a disk are no key file.
abbrev pub journal_text : JournalFault → List ℕ
journal_text (journals.NotJournal at) = codes "NotJournal " ++ decimal at
journal_text (journals.BadRecord at) = codes "BadRecord " ++ decimal at
journal_text journals.DiskFault = codes "DiskFault"
journal_text (journals.NotEmpty len) = codes "NotEmpty " ++ decimal len

-- That a file has a key of another kind. Each is told by its number, the one that is wanted first.
abbrev pub key_kinds_text : KeyKind → KeyKind → List ℕ
key_kinds_text want got =
    codes "KeyKind " ++ decimal (key_kind_tag want) ++ codes " " ++ decimal (key_kind_tag got)

-- That a file's key is not that of the first node: the identifiers of both.
abbrev pub nodes_text : List ℕ → List ℕ → List ℕ
nodes_text want got =
    codes "NotFirstNode " ++ encode_lower want ++ codes " " ++ encode_lower got

-- That an action is bad: its number, and that of the cause.
abbrev pub bad_action_text : ℕ → ℕ → List ℕ
bad_action_text index cause =
    codes "BadAction " ++ decimal index ++ codes " " ++ decimal cause
