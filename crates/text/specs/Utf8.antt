-- UTF-8 as RFC 3629 has it: the grammar of its section 4, and a walk along the octets that proofs/Grammar.antt shows to take just what the grammar makes. Assumes nothing.
use Rattle.std.specs.Prelude.{ℕ, zero, suc, ◌+◌, ◌-◌, ◌≤◌, List, [], ◌∷◌, ◌++◌, Bool, leb, eqb}
use Rattle.text.specs.declared.utf8.Wait.{Wait}
use Rattle.text.specs.Choice.{both, pick}

-- an octet from lo to hi
abbrev pub From : ℕ → ℕ → ℕ → Type 0
From lo hi b = (lo ≤ b) × (b ≤ hi)

-- the same as a test
abbrev pub within : ℕ → ℕ → ℕ → Bool
within lo hi b = both (leb lo b) (leb b hi)

-- UTF8-tail
abbrev pub Tail : ℕ → Type 0
Tail = From 0x80 0xBF

-- UTF8-char: UTF8-1 to UTF8-4, a constructor for each alternative of each
pub data Character : List ℕ → Type 0 where
  one : {a : ℕ} → From 0x00 0x7F a → Character (a ∷ [])
  two : {a b : ℕ} → From 0xC2 0xDF a → Tail b → Character (a ∷ b ∷ [])
  three_e0 : {a b c : ℕ} → From 0xE0 0xE0 a → From 0xA0 0xBF b → Tail c → Character (a ∷ b ∷ c ∷ [])
  three_e1 : {a b c : ℕ} → From 0xE1 0xEC a → Tail b → Tail c → Character (a ∷ b ∷ c ∷ [])
  three_ed : {a b c : ℕ} → From 0xED 0xED a → From 0x80 0x9F b → Tail c → Character (a ∷ b ∷ c ∷ [])
  three_ee : {a b c : ℕ} → From 0xEE 0xEF a → Tail b → Tail c → Character (a ∷ b ∷ c ∷ [])
  four_f0 : {a b c d : ℕ} → From 0xF0 0xF0 a → From 0x90 0xBF b → Tail c → Tail d → Character (a ∷ b ∷ c ∷ d ∷ [])
  four_f1 : {a b c d : ℕ} → From 0xF1 0xF3 a → Tail b → Tail c → Tail d → Character (a ∷ b ∷ c ∷ d ∷ [])
  four_f4 : {a b c d : ℕ} → From 0xF4 0xF4 a → From 0x80 0x8F b → Tail c → Tail d → Character (a ∷ b ∷ c ∷ d ∷ [])

-- UTF8-octets: n characters, one after the other
pub data Octets : List ℕ → ℕ → Type 0 where
  none : Octets [] zero
  more : {c s : List ℕ} {n : ℕ} → Character c → Octets s n → Octets (c ++ s) (suc n)

-- left more octets of a character are awaited, of which the next lies from lo to hi
abbrev pub wait : ℕ → ℕ → ℕ → Wait
wait left lo hi = record { left = left; lo = lo; hi = hi }

-- no octet lies from 1 to 0, so whoever waits so waits for ever
abbrev pub bad : Wait
bad = wait 4 1 0

-- between characters
abbrev pub start : Wait
start = wait 0 0 0

-- what a first octet has after it: a row for each alternative of the grammar
unfoldable pub lead_of : ℕ → Wait
lead_of b =
    pick (within 0x00 0x7F b) start
    (pick (within 0xC2 0xDF b) (wait 1 0x80 0xBF)
    (pick (within 0xE0 0xE0 b) (wait 2 0xA0 0xBF)
    (pick (within 0xE1 0xEC b) (wait 2 0x80 0xBF)
    (pick (within 0xED 0xED b) (wait 2 0x80 0x9F)
    (pick (within 0xEE 0xEF b) (wait 2 0x80 0xBF)
    (pick (within 0xF0 0xF0 b) (wait 3 0x90 0xBF)
    (pick (within 0xF1 0xF3 b) (wait 3 0x80 0xBF)
    (pick (within 0xF4 0xF4 b) (wait 3 0x80 0x8F)
    bad))))))))

-- what is awaited after one octet more
unfoldable pub step_of : Wait → ℕ → Wait
step_of w b =
    pick (eqb w.left 0) (lead_of b)
    (pick (within w.lo w.hi b) (wait (w.left - 1) 0x80 0xBF) bad)

-- what is awaited after each octet of a list
abbrev pub run : Wait → List ℕ → Wait
run w [] = w
run w (b ∷ s) = run (step_of w b) s

-- UTF-8: the walk ends where a character ends
unfoldable pub utf8_of : List ℕ → Bool
utf8_of s = eqb (run start s).left 0

-- an octet that is no tail starts a code point
unfoldable pub point_of : ℕ → ℕ
point_of b = pick (within 0x80 0xBF b) 0 1

-- the code points of a text: its octets that are no tail
unfoldable pub code_points_of : List ℕ → ℕ
code_points_of [] = 0
code_points_of (b ∷ s) = point_of b + code_points_of s
