-- What a buffer holds for a path, and that the path is read back from it. Assumes nothing.
use Prim.Native.Nat.{ℕ, ◌*◌, ◌-◌, ◌≤◌}
use mathlib.Core.Path.{◌≡◌, refl}
use mathlib.Core.List.{List, [], ◌∷◌, ◌++◌}
use native.Mathlib.Omega.{arith}
use lib.ListN.{length, take, replicate, length-append, length-replicate}
use lib.Seq.{take_at}
use Rattle.text.specs.Text.{padded}
use Rattle.error.specs.Paths.{Step, key_step, item_step, step_tag, step_word, path_words, instance_buffer, schema_buffer, step_of, read_path}

pub path-length : (path : List Step) → length (path_words path) ≡ length path * 2
unfolding path_words
path-length [] = refl
path-length (s ∷ path) = simp (path-length path) (omega arith)

pub padded-length : (words : List ℕ) (n : ℕ) → length words ≤ n → length (padded words n) ≡ n
unfolding padded
padded-length words n h = simp (length-append, length-replicate) (omega arith)

step_back : (s : Step) → step_of (step_tag s) (step_word s) ≡ s
step_back (key_step t) = refl
step_back (item_step i) = refl

read_front : (path : List Step) (rest : List ℕ) → read_path (path_words path ++ rest) (length path) ≡ path
unfolding read_path path_words
read_front [] rest = refl
read_front (s ∷ path) rest = rw (step_back s, read_front path rest)

-- an instance path is recovered from its buffer by its count
pub path-back : (path : List Step) (n : ℕ) → read_path (instance_buffer path n) (length path) ≡ path
unfolding instance_buffer padded
path-back path n = read_front path (replicate (n - length (path_words path)) 0)

-- a schema path too
pub kinds-back : (kinds : List ℕ) (n : ℕ) → take (length kinds) (schema_buffer kinds n) ≡ kinds
unfolding schema_buffer padded
kinds-back kinds n = take_at kinds (replicate (n - length kinds) 0) (length kinds) refl
