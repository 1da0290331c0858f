-- The leaves: one step of each definition.
use Prim.Native.Nat.{ℕ, suc, ◌+◌, ◌≤◌, ◌<◌}
use mathlib.Core.Path.{◌≡◌, refl, sym, ap, ◌∙◌}
use mathlib.Core.Bool.{Bool, true, false}
use mathlib.Core.List.{List, [], ◌∷◌}
use native.Mathlib.Numerals.{add-one}
use lib.Dec.{eqb}
use lib.ListN.{length, get_or, drop, drop_of_length-le}
use lib.Seq.{drop-cons}
use Rattle.std.specs.Prelude.{◌&&◌}
use Rattle.std.specs.List.{list_all}
use Rattle.text.specs.Choice.{both, pick}
use Rattle.layout.specs.Layout.{NONE, schema_kind, schema_word}
use Rattle.joins.specs.Joins.{note_field, closed_of}
use Rattle.inherit.specs.Carried.{Carried}
use Rattle.inherit.specs.declared.Scalars.{Scalars}
use Rattle.compilation.specs.Table.{all_objects, last_word, merged_note_in}

abbrev pub is_object : List ℕ → ℕ → Bool
is_object S b = eqb (schema_kind S b) 10

pub objects_are : (S bs : List ℕ) → list_all (is_object S) bs ≡ all_objects S bs
unfolding all_objects
objects_are S [] = refl
objects_are S (b ∷ bs) = choose (is_object S b) (objects_are S bs)
  where
    choose : (c : Bool) → list_all (is_object S) bs ≡ all_objects S bs → (c && list_all (is_object S) bs) ≡ both c (all_objects S bs)
    choose true e = e
    choose false e = refl

-- last_word after i records
pub record Reading (N S : List ℕ) (k j d : ℕ) (B : List ℕ) (i r : ℕ) : Type 0 where
  pub rest : last_word N S k j d B ≡ last_word N S k j r (drop i B)

pub reading_none : (N S : List ℕ) (k j d : ℕ) (B : List ℕ) → Reading N S k j d B 0 d
reading_none N S k j d B = record { rest = refl }

module _ (N S : List ℕ) (k j d : ℕ) (B : List ℕ) (i r : ℕ) (g : Reading N S k j d B i r) where
  pub reading_more : (test w q : ℕ) → i < length B → test ≡ note_field N S (get_or B i 0) k → w ≡ note_field N S (get_or B i 0) j → q ≡ pick (eqb test 4294967295) r w → Reading N S k j d B (i + 1) q
  unfolding last_word
  reading_more test w q h a c e =
      let n : drop i B ≡ get_or B i 0 ∷ drop (suc i) B = drop-cons B i 0 h in
      record { rest = g.rest ∙ rw (n, add-one i, e, a, c) }

  pub reading_end : length B ≤ i → r ≡ last_word N S k j d B
  unfolding last_word
  reading_end h =
      let n : drop i B ≡ [] = drop_of_length-le B {i = i} h in
      sym (g.rest ∙ rw n)

pub note-words : (N₀ S₀ N S : List ℕ) (s : ℕ) (bs : List ℕ) (own d w1 w2 w3 w4 w5 w6 w7 w8 : ℕ) → own ≡ note_field N₀ S₀ s 1 → w1 ≡ last_word N S 1 1 4294967295 bs → w2 ≡ last_word N S 2 2 4294967295 bs → w3 ≡ last_word N S 3 3 4294967295 bs → w4 ≡ last_word N S 4 4 4294967295 bs → w5 ≡ last_word N S 5 5 4294967295 bs → w6 ≡ last_word N S 6 6 4294967295 bs → w7 ≡ last_word N S 7 7 4294967295 bs → w8 ≡ last_word N S 7 8 0 bs → d ≡ pick (eqb own 4294967295) w1 own → 4294967295 ∷ d ∷ w2 ∷ w3 ∷ w4 ∷ w5 ∷ w6 ∷ w7 ∷ w8 ∷ [] ≡ merged_note_in N₀ S₀ N S s bs
unfolding merged_note_in
note-words N₀ S₀ N S s bs own d w1 w2 w3 w4 w5 w6 w7 w8 o a1 a2 a3 a4 a5 a6 a7 a8 e = rw (← o, ← a1, ← a2, ← a3, ← a4, ← a5, ← a6, ← a7, ← a8, e)

-- what the derived record brings
pub carried : (S₀ S bs : List ℕ) (s own : ℕ) (k : Scalars) → k.minimum ≡ schema_word S₀ s 9 → k.maximum ≡ schema_word S₀ s 10 → own ≡ schema_word S₀ s 11 → k.closed ≡ closed_of S (eqb own 1) bs → k.naming ≡ schema_word S₀ s 13 → Carried S₀ s S bs k
carried S₀ S bs s own k a b e c d = record { minimum = a; maximum = b; closed = c ∙ ap (λ (w : ℕ). closed_of S (eqb w 1) bs) e; naming = d }

pub own-none : (names : Bool) (w : ℕ) → names ≡ true → NONE ≡ pick names NONE w
own-none names w h = rw h

pub own_some : (names : Bool) (w r : ℕ) → names ≡ false → r ≡ w → r ≡ pick names NONE w
own_some names w r h e = rw h e
