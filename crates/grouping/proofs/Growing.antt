-- What appending keeps, and what a new record says. Assumes nothing.
use Prim.Native.Nat.{ℕ, suc, ◌+◌, ◌*◌, ◌/◌, ◌≤◌, ◌<◌}
use mathlib.Core.Path.{◌≡◌, refl, sym, ap, subst, ◌∙◌}
use mathlib.Core.Bool.{Bool, true, false}
use mathlib.Core.List.{List, [], ◌∷◌, ◌++◌, append_assoc, append-nil}
use mathlib.Core.Option.{Option}
use native.Mathlib.Omega.{arith}
use lib.ListN.{length, length-append}
use lib.Seq.{get_or-append_seam, get_or-append-add}
use lib.Dec.{leb, ltb}
use borrow.Author.Tests.{leb-true, ltb-true, ltb-false}
use Rattle.text.specs.Choice.{pick}
use Rattle.layout.specs.Layout.{NONE, note_count, schema_count}
use Rattle.schema.specs.Shape.{Pair, Shape}
use Rattle.schema.specs.Look.{Words, slice, raw, bases}
use Rattle.merge.specs.Pairs.{pairs_at, flat_pairs}
use Rattle.compilation.specs.Compile.{Result, ok, refuse, then, Room, with_notes, with_row, with_links, add_note, add_row, add_links}
use Rattle.compilation.proofs.Grows.{begins_itself, begins_more, slice_same}
use Rattle.grouping.specs.Record.{row_at, shape_of, bases_of, count}
use Rattle.grouping.specs.Tree.{EveryPair, Perhaps, PerhapsEvery, Children}
use Rattle.grouping.proofs.Shapes.{pairs_less, option_less, every-perhaps}
use Rattle.grouping.proofs.Rowed.{row_slice, raw_row, bases_row}

pub slice_kept : (xs ys : List ℕ) (at n : ℕ) → at + n ≤ length xs → slice (xs ++ ys) at n ≡ slice xs at n
slice_kept xs ys at n h = slice_same (begins_more (begins_itself xs) ys) at n h

pub slice_new : (xs ys zs : List ℕ) → slice (xs ++ (ys ++ zs)) (length xs) (length ys) ≡ ys
unfolding slice
slice_new xs [] zs = refl
slice_new xs (y ∷ ys) zs =
    let next : slice ((xs ++ (y ∷ [])) ++ (ys ++ zs)) (length (xs ++ (y ∷ []))) (length ys) ≡ ys = slice_new (xs ++ (y ∷ [])) ys zs in
    let here : slice (xs ++ (y ∷ (ys ++ zs))) (length xs + 1) (length ys) ≡ ys = simp (append_assoc, length-append) at next in
    cc (get_or-append_seam xs y (ys ++ zs) 0)

pub pairs_new : (xs : List ℕ) (ps : List (Pair ℕ)) (zs : List ℕ) → pairs_at (xs ++ (flat_pairs ps ++ zs)) (length xs) (length ps) ≡ ps
unfolding pairs_at flat_pairs
pairs_new xs [] zs = refl
pairs_new xs (p ∷ ps) zs =
    let next : pairs_at ((xs ++ (p.key ∷ p.value ∷ [])) ++ (flat_pairs ps ++ zs)) (length (xs ++ (p.key ∷ p.value ∷ []))) (length ps) ≡ ps = pairs_new (xs ++ (p.key ∷ p.value ∷ [])) ps zs in
    let here : pairs_at (xs ++ (p.key ∷ p.value ∷ (flat_pairs ps ++ zs))) (length xs + 2) (length ps) ≡ ps = simp (append_assoc, length-append) at next in
    rw (get_or-append_seam xs p.key (p.value ∷ (flat_pairs ps ++ zs)) 0, get_or-append-add xs (p.key ∷ p.value ∷ (flat_pairs ps ++ zs)) 1 0, here)

-- t' is t with words behind
pub record Extends (t t' : Words) : Type 0 where
  pub notes : List ℕ
  pub schemas : List ℕ
  pub links : List ℕ
  pub notes_are : t'.notes ≡ t.notes ++ notes
  pub schemas_are : t'.schemas ≡ t.schemas ++ schemas
  pub links_are : t'.links ≡ t.links ++ links

pub extends_self : (t : Words) → Extends t t
extends_self t = record { notes = []; schemas = []; links = []; notes_are = sym (append-nil t.notes); schemas_are = sym (append-nil t.schemas); links_are = sym (append-nil t.links) }

appended : (x y z a b : List ℕ) → y ≡ x ++ a → z ≡ y ++ b → z ≡ x ++ (a ++ b)
appended x y z a b e f = f ∙ (ap (λ (u : List ℕ). u ++ b) e ∙ append_assoc x a b)

pub extends_more : {a b c : Words} → Extends a b → Extends b c → Extends a c
extends_more {a} {b} {c} p q = record {
  notes = p.notes ++ q.notes;
  schemas = p.schemas ++ q.schemas;
  links = p.links ++ q.links;
  notes_are = appended a.notes b.notes c.notes p.notes q.notes p.notes_are q.notes_are;
  schemas_are = appended a.schemas b.schemas c.schemas p.schemas q.schemas p.schemas_are q.schemas_are;
  links_are = appended a.links b.links c.links p.links q.links p.links_are q.links_are;
}

pub extends_notes : (t : Words) (x : List ℕ) → Extends t (with_notes t x)
extends_notes t x = record { notes = x; schemas = []; links = []; notes_are = refl; schemas_are = sym (append-nil t.schemas); links_are = sym (append-nil t.links) }

pub extends_row : (t : Words) (x : List ℕ) → Extends t (with_row t x)
extends_row t x = record { notes = []; schemas = x; links = []; notes_are = sym (append-nil t.notes); schemas_are = refl; links_are = sym (append-nil t.links) }

pub extends_links : (t : Words) (x : List ℕ) → Extends t (with_links t x)
extends_links t x = record { notes = []; schemas = []; links = x; notes_are = sym (append-nil t.notes); schemas_are = sym (append-nil t.schemas); links_are = refl }

-- whole records, fewer than NONE, each after its children
pub record Placed (t : Words) : Type 0 where
  pub rows : count t * 16 ≡ length t.schemas
  pub note-rows : length t.notes / 9 * 9 ≡ length t.notes
  pub few : count t < NONE
  pub few-notes : length t.notes / 9 < NONE
  pub below : (s : ℕ) → s < count t → Children (λ x. x < s) (raw t s)
  pub bases_below : (s : ℕ) → s < count t → PerhapsEvery (λ x. x < s) (bases t s)

-- tables whose records read the same whatever is appended
pub record Sound (t : Words) : Type 0 where
  pub placed : Placed t
  pub steady : (s : ℕ) → s < count t → (u : Words) → Extends t u → raw u s ≡ raw t s
  pub steady_bases : (s : ℕ) → s < count t → (u : Words) → Extends t u → bases u s ≡ bases t s

pub count_grows : {t u : Words} → Extends t u → count t ≤ count u
unfolding schema_count
count_grows {t} {u} e = omega (arith, ap length e.schemas_are, length-append t.schemas e.schemas)

pub row_kept : {t u : Words} → Placed t → Extends t u → (s : ℕ) → s < count t → row_at u s ≡ row_at t s
unfolding row_at
row_kept {t} {u} z e s i =
    row_slice u.schemas s 0 16 ∙
    (rw e.schemas_are (slice_kept t.schemas e.schemas (s * 16 + 0) 16 (omega (arith, z.rows))) ∙ sym (row_slice t.schemas s 0 16))

-- what only grows elsewhere stays sound
keeps : {t u : Words} → Sound t → Extends t u → count u ≡ count t → count u * 16 ≡ length u.schemas → length u.notes / 9 * 9 ≡ length u.notes → length u.notes / 9 < NONE → Sound u
keeps {t} {u} z e c rows notes few = record {
  placed = record {
    rows = rows;
    note-rows = notes;
    few = omega (arith, z.placed.few);
    few-notes = few;
    below = λ s i. subst (Children (λ x. x < s)) (sym (z.steady s (omega arith) u e)) (z.placed.below s (omega arith));
    bases_below = λ s i. subst (PerhapsEvery (λ x. x < s)) (sym (z.steady_bases s (omega arith) u e)) (z.placed.bases_below s (omega arith));
  };
  steady = λ s i w f. z.steady s (omega arith) w (extends_more e f) ∙ sym (z.steady s (omega arith) u e);
  steady_bases = λ s i w f. z.steady_bases s (omega arith) w (extends_more e f) ∙ sym (z.steady_bases s (omega arith) u e);
}

pub sound_links : {t : Words} (x : List ℕ) → Sound t → Sound (with_links t x)
unfolding schema_count
sound_links {t} x z = keeps z (extends_links t x) refl z.placed.rows z.placed.note-rows z.placed.few-notes

pub sound_note : {t : Words} (x : List ℕ) → Sound t → length x ≡ 9 → length t.notes / 9 + 1 < NONE → Sound (with_notes t x)
unfolding schema_count
sound_note {t} x z e h = keeps z (extends_notes t x) refl z.placed.rows (omega (arith, z.placed.note-rows, length-append t.notes x)) (omega (arith, z.placed.note-rows, length-append t.notes x))

-- a new row is read back whatever is appended
pub new_row : {t : Words} (row : List ℕ) → Sound t → length row ≡ 16 → (u : Words) → Extends (with_row t row) u → row_at u (count t) ≡ row
unfolding row_at
new_row {t} row z n u e =
    row_slice u.schemas (count t) 0 16 ∙
    (let here : count t * 16 + 0 ≡ count t * 16 = omega arith in
    ap (λ (at : ℕ). slice u.schemas at 16) here ∙
    rw (e.schemas_are, z.placed.rows, append_assoc t.schemas row e.schemas, ← n) (slice_new t.schemas row e.schemas))

pub record Added (t t' : Words) (r : ℕ) (sh : Shape ℕ) : Type 0 where
  pub grown : Extends t t'
  pub sound : Sound t'
  pub new : r < count t'
  pub is : raw t' r ≡ sh

count_row : {t : Words} (row : List ℕ) → Sound t → length row ≡ 16 → count (with_row t row) ≡ suc (count t)
unfolding schema_count
count_row {t} row z n = omega (arith, z.placed.rows, length-append t.schemas row)

-- a new record, or one that was there
last_or : (P : ℕ → Type 0) (c s : ℕ) → s < suc c → (s < c → P s) → P c → P s
last_or P c s i f g = at (ltb s c) refl
  where
    at : (b : Bool) → ltb s c ≡ b → P s
    at true e = f (ltb-true s c e)
    at false e = let q : c ≡ s = omega (arith, ltb-false s c e) in subst P q g

module _ {t : Words} (row : List ℕ) (sh : Shape ℕ) (b : Option (List ℕ)) (z : Sound t) (n : length row ≡ 16)
    (reads : (u : Words) → Extends t u → shape_of u row ≡ sh) (based : (u : Words) → Extends t u → bases_of u row ≡ b) where
  new_raw : (u : Words) → Extends (with_row t row) u → raw u (count t) ≡ sh
  new_raw u e = raw_row u (count t) ∙ rw (new_row row z n u e) (reads u (extends_more (extends_row t row) e))

  new_bases : (u : Words) → Extends (with_row t row) u → bases u (count t) ≡ b
  new_bases u e = bases_row u (count t) ∙ rw (new_row row z n u e) (based u (extends_more (extends_row t row) e))

  pub sound_row : count t + 1 < NONE → Children (λ x. x < count t) sh → PerhapsEvery (λ x. x < count t) b → Added t (with_row t row) (count t) sh
  sound_row few c d =
      let grew : count (with_row t row) ≡ suc (count t) = count_row row z n in
      let on : Extends t (with_row t row) = extends_row t row in
      record {
        grown = on;
        sound = record {
          placed = record {
            rows = omega (arith, z.placed.rows, length-append t.schemas row);
            note-rows = z.placed.note-rows;
            few = omega arith;
            few-notes = z.placed.few-notes;
            below = λ s i. last_or (λ y. Children (λ x. x < y) (raw (with_row t row) y)) (count t) s (omega arith)
                (λ j. subst (Children (λ x. x < s)) (sym (z.steady s j (with_row t row) on)) (z.placed.below s j))
                (subst (Children (λ x. x < count t)) (sym (new_raw (with_row t row) (extends_self (with_row t row)))) c);
            bases_below = λ s i. last_or (λ y. PerhapsEvery (λ x. x < y) (bases (with_row t row) y)) (count t) s (omega arith)
                (λ j. subst (PerhapsEvery (λ x. x < s)) (sym (z.steady_bases s j (with_row t row) on)) (z.placed.bases_below s j))
                (subst (PerhapsEvery (λ x. x < count t)) (sym (new_bases (with_row t row) (extends_self (with_row t row)))) d);
          };
          steady = λ s i u e. last_or (λ x. raw u x ≡ raw (with_row t row) x) (count t) s (omega arith)
              (λ j. z.steady s j u (extends_more on e) ∙ sym (z.steady s j (with_row t row) on)) (new_raw u e ∙ sym (new_raw (with_row t row) (extends_self (with_row t row))));
          steady_bases = λ s i u e. last_or (λ x. bases u x ≡ bases (with_row t row) x) (count t) s (omega arith)
              (λ j. z.steady_bases s j u (extends_more on e) ∙ sym (z.steady_bases s j (with_row t row) on)) (new_bases u e ∙ sym (new_bases (with_row t row) (extends_self (with_row t row))));
        };
        new = omega arith;
        is = new_raw (with_row t row) (extends_self (with_row t row));
      }

-- what went well went on
pub then_elim : {A B : Type 0} {C : Type 0} (r : Result A) (f : A → Words → Result B) (b : B) (t' : Words) → ((a : A) (u : Words) → r ≡ ok a u → f a u ≡ ok b t' → C) → then r f ≡ ok b t' → C
then_elim (ok a u) f b t' k e = k a u refl e
then_elim (refuse n) f b t' k e = absurd (let q : ◌≡◌ {A = ℕ} 0 1 = cc in omega arith)

pub ok_same : {A : Type 0} (P : A → Words → Type 0) (a b : A) (t u : Words) → ok a t ≡ ok b u → P a t → P b u
ok_same P a b t u e p =
    let x : a ≡ b = cc in
    let y : t ≡ u = cc in
    subst (λ (w : Words). P b w) y (subst (λ (c : _). P c t) x p)

-- what an append that went well did: there was room, and what comes after it went on
room-step : {B : Type 0} (n room a : ℕ) (u : Words) (f : ℕ → Words → Result B) (b : B) (t' : Words) → then (pick (leb n room) (ok a u) (refuse 33)) f ≡ ok b t' → (n ≤ room) × (f a u ≡ ok b t')
room-step n room a u f b t' = at (leb n room) refl
  where
    at : (c : Bool) → leb n room ≡ c → then (pick c (ok a u) (refuse 33)) f ≡ ok b t' → (n ≤ room) × (f a u ≡ ok b t')
    at true h e = (leb-true n room h, e)
    at false h e = absurd (let q : ◌≡◌ {A = ℕ} 0 1 = cc in omega arith)

module _ (R : Room) (eq : ℕ → ℕ → Bool) (find : ℕ → Option ℕ) where
  pub links-step : {B : Type 0} (x : List ℕ) (t : Words) (f : ℕ → Words → Result B) (b : B) (t' : Words) → then (add_links R eq find x t) f ≡ ok b t' →
      (length t.links + length x ≤ R.links) × (f (length t.links) (with_links t x) ≡ ok b t')
  unfolding add_links
  links-step x t f b t' e = room-step (length t.links + length x) R.links (length t.links) (with_links t x) f b t' e

  pub note_step : {B : Type 0} (x : List ℕ) (t : Words) (f : ℕ → Words → Result B) (b : B) (t' : Words) → then (add_note R eq find x t) f ≡ ok b t' →
      (note_count t.notes + 1 ≤ R.notes) × (f (note_count t.notes) (with_notes t x) ≡ ok b t')
  unfolding add_note
  note_step x t f b t' e = room-step (note_count t.notes + 1) R.notes (note_count t.notes) (with_notes t x) f b t' e

  pub row_step : {B : Type 0} (x : List ℕ) (t : Words) (f : ℕ → Words → Result B) (b : B) (t' : Words) → then (add_row R eq find x t) f ≡ ok b t' →
      (count t + 1 ≤ R.schemas) × (f (count t) (with_row t x) ≡ ok b t')
  unfolding add_row
  row_step x t f b t' e = room-step (count t + 1) R.schemas (count t) (with_row t x) f b t' e

  -- a row that nothing comes after
  pub last_row : (P : ℕ → Words → Type 0) (row : List ℕ) (t : Words) (r : ℕ) (t' : Words) → (count t + 1 ≤ R.schemas → P (count t) (with_row t row)) → add_row R eq find row t ≡ ok r t' → P r t'
  unfolding add_row
  last_row P row t r t' p = at (leb (count t + 1) R.schemas) refl
    where
      at : (b : Bool) → leb (count t + 1) R.schemas ≡ b → pick b (ok (count t) (with_row t row)) (refuse 33) ≡ ok r t' → P r t'
      at true h e = ok_same P (count t) r (with_row t row) t' e (p (leb-true (count t + 1) R.schemas h))
      at false h e = absurd (let q : ◌≡◌ {A = ℕ} 0 1 = cc in omega arith)

-- the limits of schemas and of notes are below NONE
pub limit : {n : ℕ} → n ≤ 4096 → n < NONE
limit h = omega arith

pub limit_notes : {n : ℕ} → n ≤ 1024 → n < NONE
limit_notes h = omega arith

-- what was linked is read back
pub links_read : (t : Words) {u : Words} (x : List ℕ) → Extends (with_links t x) u → slice u.links (length t.links) (length x) ≡ x
links_read t {u} x e = rw (e.links_are, append_assoc t.links x e.links) (slice_new t.links x e.links)

pub pairs_read : (t : Words) {u : Words} (ps : List (Pair ℕ)) → Extends (with_links t (flat_pairs ps)) u → pairs_at u.links (length t.links) (length ps) ≡ ps
pairs_read t {u} ps e = rw (e.links_are, append_assoc t.links (flat_pairs ps) e.links) (pairs_new t.links ps e.links)

-- bounds grow with the tables
pub pairs-later : {t u : Words} → Extends t u → {xs : List (Pair ℕ)} → EveryPair (λ y. y < count t) xs → EveryPair (λ y. y < count u) xs
pairs-later e ps = pairs_less (count_grows e) ps

pub perhaps-later : {t u : Words} → Extends t u → {x : Option (List ℕ)} → PerhapsEvery (λ y. y < count t) x → PerhapsEvery (λ y. y < count u) x
perhaps-later e p = every-perhaps (count_grows e) p

pub option_later : {t u : Words} → Extends t u → {x : Option ℕ} → Perhaps (λ y. y < count t) x → Perhaps (λ y. y < count u) x
option_later e p = option_less (count_grows e) p
