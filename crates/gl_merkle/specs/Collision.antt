-- Where two ways that end at one root meet: two inputs of the inner hash that differ and have one
-- digest.
use Rattle.std.specs.Prelude.{◌≡◌, ◌≢◌, ◌⊎◌, ℕ, List, [], ◌∷◌, ◌++◌}
use Rattle.sha2.specs.Sha256.{sha256}
use Rattle.gl_merkle.specs.declared.tree.Step.{Step}
use Rattle.gl_merkle.specs.declared.tree.Step.TheVariants.{Left, Right}
use Rattle.gl_merkle.specs.Path.{joined}

-- the two steps have their siblings on one side
abbrev pub IsSameSide : Step → Step → Type 0
IsSameSide (Left x) (Left y) = Unit {0}
IsSameSide (Left x) (Right y) = ⊥
IsSameSide (Right x) (Left y) = ⊥
IsSameSide (Right x) (Right y) = Unit {0}

-- the two ways have one length, and their siblings on the same sides
abbrev pub HaveSameSides : List Step → List Step → Type 0
HaveSameSides [] [] = Unit {0}
HaveSameSides [] (y ∷ t) = ⊥
HaveSameSides (x ∷ s) [] = ⊥
HaveSameSides (x ∷ s) (y ∷ t) = IsSameSide x y × HaveSameSides s t

-- the 64 bytes that are hashed to the node above this one and the sibling that the step names
abbrev pub input_of : List ℕ → Step → List ℕ
input_of node (Left sibling) = sibling ++ node
input_of node (Right sibling) = node ++ sibling

-- at some step the two ways hash two different inputs to one digest
abbrev pub Collide : List ℕ → List Step → List ℕ → List Step → Type 0
Collide a [] b t = ⊥
Collide a (x ∷ s) b [] = ⊥
Collide a (x ∷ s) b (y ∷ t) =
    ((input_of a x ≢ input_of b y) × (sha256 (input_of a x) ≡ sha256 (input_of b y)))
    ⊎ Collide (joined a x) s (joined b y) t
