-- One step of each loop: lists in the links are walked by `slice L (first + i) (count - i)`, an object's entries by `entries_from`. And
-- anyOf after its first error. Assumes nothing.
use Prim.Native.Nat.{ℕ, ◌+◌, ◌-◌, ◌≤◌, ◌<◌}
use mathlib.Core.Path.{◌≡◌, refl, sym, ap, ◌∙◌}
use mathlib.Core.Bool.{Bool, false}
use mathlib.Core.List.{List, [], ◌∷◌}
use mathlib.Core.Option.{Option, some, none}
use native.Mathlib.Omega.{arith}
use lib.ListN.{get_or}
use Rattle.text.proofs.Count.{one_more, none_left}
use Rattle.error.specs.Paths.{item_step}
use Rattle.layout.specs.Layout.{Tables}
use Rattle.schema.specs.Look.{slice}
use Rattle.schema.specs.Shape.{Object}
use Rattle.schema.proofs.Slices.{slice_begin, slice_more, slice-end}
use Rattle.validator.specs.declared.paths.Refusal.{Refusal}
use Rattle.std.specs.Prelude.{Ok, Err}
use Rattle.validator.specs.declared.paths.Stop.{Stop}
use Rattle.validator.specs.declared.paths.Stop.TheVariants.{Refused, Invalid, Ended}
use Rattle.validator.specs.Outcome.{Error, Outcome, accepted, refused, invalid, ended, place, and_then, any_step}
use Rattle.validator.specs.Visit.{Nodes, any_over, all_over, items_over, entries_over, entry_at}
use Rattle.validator.specs.Nodes.{entry_of, entries_from}
use Rattle.validator.specs.Met.{Visited, told, or_later, lastly, Met, Later}
use Rattle.validator.proofs.Buffers.{is_accepted, and_stop, and_go, met-accepted, met_ended}

-- ---- lists in the links
module _ (L : List ℕ) (first count : ℕ) where
  pub any_begin : (go : ℕ → Outcome) → any_over go none (slice L first count) ≡ any_over go none (slice L (first + 0) (count - 0))
  any_begin go = ap (any_over go none) (sym (slice_begin L first count))

  pub all_begin : (go : ℕ → Outcome) → all_over go (slice L first count) ≡ all_over go (slice L (first + 0) (count - 0))
  all_begin go = ap (all_over go) (sym (slice_begin L first count))

  pub items_begin : (go : ℕ → Outcome) → items_over go 0 (slice L first count) ≡ items_over go 0 (slice L (first + 0) (count - 0))
  items_begin go = ap (items_over go 0) (sym (slice_begin L first count))

  module _ (i : ℕ) (ge : count ≤ i) where
    pub any_end_lem : (go : ℕ → Outcome) → any_over go none (slice L (first + i) (count - i)) ≡ ended 25
    unfolding any_over
    any_end_lem go = rw (slice-end L first i count ge)

    pub all_end : (go : ℕ → Outcome) → all_over go (slice L (first + i) (count - i)) ≡ accepted
    unfolding all_over
    all_end go = rw (slice-end L first i count ge)

    pub items-end : (go : ℕ → Outcome) (k : ℕ) → items_over go k (slice L (first + i) (count - i)) ≡ accepted
    unfolding items_over
    items-end go k = rw (slice-end L first i count ge)

    pub lastly-end : (go : ℕ → Outcome) (best : Visited) → lastly go best (slice L (first + i) (count - i)) ≡ best
    unfolding lastly
    lastly-end go best = rw (slice-end L first i count ge)

  module _ (i part : ℕ) (lt : i < count) (p : part ≡ get_or L (first + i) 0) where
    cut : slice L (first + i) (count - i) ≡ part ∷ slice L (first + (i + 1)) (count - (i + 1))
    cut = slice_more L first i count lt ∙ ap (λ (x : ℕ). x ∷ slice L (first + (i + 1)) (count - (i + 1))) (sym p)

    pub any_step_lem : (go : ℕ → Outcome) → any_over go none (slice L (first + i) (count - i)) ≡ any_step (go part) none (λ b. any_over go b (slice L (first + (i + 1)) (count - (i + 1))))
    unfolding any_over
    any_step_lem go = ap (any_over go none) cut

    pub all_step : (go : ℕ → Outcome) → all_over go (slice L (first + i) (count - i)) ≡ and_then (go part) (all_over go (slice L (first + (i + 1)) (count - (i + 1))))
    unfolding all_over
    all_step go = ap (all_over go) cut

    pub items-step : (go : ℕ → Outcome) → items_over go i (slice L (first + i) (count - i)) ≡ and_then (place (item_step i) (go part)) (items_over go (i + 1) (slice L (first + (i + 1)) (count - (i + 1))))
    unfolding items_over
    items-step go = ap (items_over go i) cut

    pub lastly-step : (go : ℕ → Outcome) (best : Visited) → lastly go best (slice L (first + i) (count - i)) ≡ or_later (go part) (lastly go best (slice L (first + (i + 1)) (count - (i + 1))))
    unfolding lastly
    lastly-step go best = ap (lastly go best) cut

-- ---- an object's entries
module _ (D : Nodes) (T : Tables) (go : ℕ → ℕ → Outcome) (s : ℕ) (o : Object ℕ) (n count : ℕ) where
  abbrev rest : ℕ → Outcome
  rest i = entries_over D (λ (x : ℕ). x) go s o n (entries_from T n i (count - i))

  pub entries_begin : entries_over D (λ (x : ℕ). x) go s o n (entries_from T n 0 count) ≡ rest 0
  entries_begin = ap (λ (m : ℕ). entries_over D (λ (x : ℕ). x) go s o n (entries_from T n 0 m)) (omega arith)

  pub entries_step : (i : ℕ) → i < count → rest i ≡ and_then (entry_at D (λ (x : ℕ). x) go s o n (entry_of T n i).value (entry_of T n i).key) (rest (i + 1))
  unfolding entries_over entries_from
  entries_step i lt = rw (one_more i count lt)

  pub entries_end : (i : ℕ) → count ≤ i → rest i ≡ accepted
  unfolding entries_over entries_from
  entries_end i ge = rw (none_left i count ge)

-- ---- anyOf
module _ (s k : ℕ) (a : Visited) where
  -- before an error
  pub any_accepts : (o : Outcome) (f : Option Error → Outcome) → a ≡ told o s k → a ≡ Ok tt → any_step o none f ≡ accepted
  any_accepts accepted f e h = refl
  any_accepts (refused x) f e h = absurd (let z : ◌≡◌ {A = ℕ} 0 1 = cc in omega arith)
  any_accepts (invalid p) f e h = absurd (let z : ◌≡◌ {A = ℕ} 0 1 = cc in omega arith)
  any_accepts (ended n) f e h = absurd (let z : ◌≡◌ {A = ℕ} 0 1 = cc in omega arith)

  pub any_ends : (o : Outcome) (f : Option Error → Outcome) (n : ℕ) → a ≡ told o s k → a ≡ Err (Ended n) → any_step o none f ≡ ended n
  any_ends accepted f n e h = absurd (let z : ◌≡◌ {A = ℕ} 0 1 = cc in omega arith)
  any_ends (refused x) f n e h = absurd (let z : ◌≡◌ {A = ℕ} 0 1 = cc in omega arith)
  any_ends (invalid p) f n e h = absurd (let z : ◌≡◌ {A = ℕ} 0 1 = cc in omega arith)
  any_ends (ended m) f n e h = cc

  pub any_skips : (o : Outcome) (f : Option Error → Outcome) (n : ℕ) → a ≡ told o s k → a ≡ Err (Invalid n) → any_step o none f ≡ f none
  any_skips accepted f n e h = absurd (let z : ◌≡◌ {A = ℕ} 0 1 = cc in omega arith)
  any_skips (refused x) f n e h = absurd (let z : ◌≡◌ {A = ℕ} 0 1 = cc in omega arith)
  any_skips (invalid p) f n e h = refl
  any_skips (ended m) f n e h = absurd (let z : ◌≡◌ {A = ℕ} 0 1 = cc in omega arith)

  -- after it
  pub later-accepts : (o : Outcome) (v : Visited) → a ≡ told o s k → a ≡ Ok tt → a ≡ or_later o v
  later-accepts accepted v e h = h
  later-accepts (refused x) v e h = absurd (let z : ◌≡◌ {A = ℕ} 0 1 = cc in omega arith)
  later-accepts (invalid p) v e h = absurd (let z : ◌≡◌ {A = ℕ} 0 1 = cc in omega arith)
  later-accepts (ended n) v e h = absurd (let z : ◌≡◌ {A = ℕ} 0 1 = cc in omega arith)

  pub later_ends : (o : Outcome) (v : Visited) (x : Stop) (n : ℕ) → a ≡ told o s k → a ≡ Err x → x ≡ Ended n → Err x ≡ or_later o v
  later_ends accepted v x n e h q = absurd (let z : ◌≡◌ {A = ℕ} 0 1 = cc in omega arith)
  later_ends (refused y) v x n e h q = absurd (let z : ◌≡◌ {A = ℕ} 0 1 = cc in omega arith)
  later_ends (invalid p) v x n e h q = absurd (let z : ◌≡◌ {A = ℕ} 0 1 = cc in omega arith)
  later_ends (ended m) v x n e h q = sym h ∙ e

  pub later_goes : (o : Outcome) (v : Visited) (x : Stop) → a ≡ told o s k → a ≡ Err x → ((n : ℕ) → x ≡ Ended n → ⊥) → or_later o v ≡ v
  later_goes accepted v x e h never = absurd (let z : ◌≡◌ {A = ℕ} 0 1 = cc in omega arith)
  later_goes (refused y) v x e h never = refl
  later_goes (invalid p) v x e h never = refl
  later_goes (ended m) v x e h never = absurd (never m cc)

module _ (go : ℕ → Outcome) (log : Bool) (s k : ℕ) (I J S R : List ℕ) (a : Visited) where
  later_arm : (e : Error) (o : Outcome) (v : Visited) (f : Option Error → Outcome) → Met (refused e) log s k I J S R a → Met (f (some e)) log s k I J S R v → Met (any_step o (some e) f) log s k I J S R (or_later o v)
  later_arm e accepted v f m w = met-accepted log s k I J S R (Ok tt) (omega (arith, m.few_i)) (omega (arith, m.few_k)) refl m.calm_i m.calm_s
  later_arm e (refused y) v f m w = w
  later_arm e (invalid p) v f m w = w
  later_arm e (ended n) v f m w = met_ended n log s k I J S R (Err (Ended n)) (omega (arith, m.few_i)) (omega (arith, m.few_k)) refl m.calm_i m.calm_s

  met-later : (e : Error) (xs : List ℕ) → Met (refused e) log s k I J S R a → Met (any_over go (some e) xs) log s k I J S R (lastly go a xs)
  unfolding any_over lastly
  met-later e [] m = m
  met-later e (x ∷ xs) m = later_arm e (go x) (lastly go a xs) (λ b. any_over go b xs) m (met-later e xs m)

  -- the first error, with what the later alternatives say
  pub any_kept : (o : Outcome) (xs : List ℕ) (x : Refusal) (I' S' : List ℕ) (r : Visited) → Met o log s k I J S R a → a ≡ Err (Refused x) → Later (lastly go (Err (Refused x)) xs) J I' R S' r → Met (any_step o none (λ b. any_over go b xs)) log s k I I' S S' r
  any_kept accepted xs x I' S' r m h w = absurd (let e = m.answer in let z : ◌≡◌ {A = ℕ} 0 1 = cc in omega arith)
  any_kept (refused e) xs x I' S' r m h w = rw (w.same_i, w.same_s, w.answer, ← h) (met-later e xs m)
  any_kept (invalid p) xs x I' S' r m h w = absurd (let e = m.answer in let z : ◌≡◌ {A = ℕ} 0 1 = cc in omega arith)
  any_kept (ended n) xs x I' S' r m h w = absurd (let e = m.answer in let z : ◌≡◌ {A = ℕ} 0 1 = cc in omega arith)

-- ---- the loops' steps: X is the whole outcome, a what the part's visit told
module _ (L : List ℕ) (first count i part : ℕ) (lt : i < count) (p : part ≡ get_or L (first + i) 0) (go : ℕ → Outcome) (s k : ℕ) (a : Visited) where
  abbrev left : Option Error → Outcome
  left b = any_over go b (slice L (first + (i + 1)) (count - (i + 1)))

  pub any_accept : (X : Outcome) → X ≡ any_over go none (slice L (first + i) (count - i)) → a ≡ told (go part) s k → a ≡ Ok tt → X ≡ accepted
  any_accept X x e h = x ∙ any_step_lem L first count i part lt p go ∙ any_accepts s k a (go part) left e h

  pub any_stop : (X : Outcome) (n : ℕ) → X ≡ any_over go none (slice L (first + i) (count - i)) → a ≡ told (go part) s k → a ≡ Err (Ended n) → X ≡ ended n
  any_stop X n x e h = x ∙ any_step_lem L first count i part lt p go ∙ any_ends s k a (go part) left n e h

  pub any_more : (X : Outcome) (n : ℕ) → X ≡ any_over go none (slice L (first + i) (count - i)) → a ≡ told (go part) s k → a ≡ Err (Invalid n) → X ≡ any_over go none (slice L (first + (i + 1)) (count - (i + 1)))
  any_more X n x e h = x ∙ any_step_lem L first count i part lt p go ∙ any_skips s k a (go part) left n e h

  pub any_met : (X : Outcome) (log : Bool) (I J S R I' S' : List ℕ) (y : Refusal) (r : Visited) → X ≡ any_over go none (slice L (first + i) (count - i)) → Met (go part) log s k I J S R a → a ≡ Err (Refused y) → Later (lastly go (Err (Refused y)) (slice L (first + (i + 1)) (count - (i + 1)))) J I' R S' r → Met X log s k I I' S S' r
  any_met X log I J S R I' S' y r x m h w = rw (x ∙ any_step_lem L first count i part lt p go) (any_kept go log s k I J S R a (go part) (slice L (first + (i + 1)) (count - (i + 1))) y I' S' r m h w)

  pub all_stop : (X : Outcome) (x : Stop) → X ≡ all_over go (slice L (first + i) (count - i)) → a ≡ told (go part) s k → a ≡ Err x → X ≡ go part
  all_stop X x q e h = q ∙ all_step L first count i part lt p go ∙ and_stop s k a (go part) (all_over go (slice L (first + (i + 1)) (count - (i + 1)))) x e h

  pub all_more : (X : Outcome) → X ≡ all_over go (slice L (first + i) (count - i)) → a ≡ told (go part) s k → a ≡ Ok tt → X ≡ all_over go (slice L (first + (i + 1)) (count - (i + 1)))
  all_more X x e h = x ∙ all_step L first count i part lt p go ∙ and_go (go part) (all_over go (slice L (first + (i + 1)) (count - (i + 1)))) (is_accepted s k a (go part) e h)

  pub items-stop : (X : Outcome) (x : Stop) → X ≡ items_over go i (slice L (first + i) (count - i)) → a ≡ told (place (item_step i) (go part)) s k → a ≡ Err x → X ≡ place (item_step i) (go part)
  items-stop X x q e h = q ∙ items-step L first count i part lt p go ∙ and_stop s k a (place (item_step i) (go part)) (items_over go (i + 1) (slice L (first + (i + 1)) (count - (i + 1)))) x e h

  pub items_more : (X : Outcome) → X ≡ items_over go i (slice L (first + i) (count - i)) → a ≡ told (place (item_step i) (go part)) s k → a ≡ Ok tt → X ≡ items_over go (i + 1) (slice L (first + (i + 1)) (count - (i + 1)))
  items_more X x e h = x ∙ items-step L first count i part lt p go ∙ and_go (place (item_step i) (go part)) (items_over go (i + 1) (slice L (first + (i + 1)) (count - (i + 1)))) (is_accepted s k a (place (item_step i) (go part)) e h)

  module _ (best X : Visited) (x : X ≡ lastly go best (slice L (first + i) (count - i))) (e : a ≡ told (go part) s k) where
    abbrev ending : Visited
    ending = lastly go best (slice L (first + (i + 1)) (count - (i + 1)))

    pub lastly_accept : a ≡ Ok tt → Ok tt ≡ X
    lastly_accept h = sym h ∙ later-accepts s k a (go part) ending e h ∙ sym (x ∙ lastly-step L first count i part lt p go best)

    pub lastly-stop : (y : Stop) (n : ℕ) → a ≡ Err y → y ≡ Ended n → Err y ≡ X
    lastly-stop y n h q = later_ends s k a (go part) ending y n e h q ∙ sym (x ∙ lastly-step L first count i part lt p go best)

    pub lastly_goes : (y : Stop) → a ≡ Err y → ((n : ℕ) → y ≡ Ended n → ⊥) → X ≡ lastly go best (slice L (first + (i + 1)) (count - (i + 1)))
    lastly_goes y h never = x ∙ lastly-step L first count i part lt p go best ∙ later_goes s k a (go part) ending y e h never

-- ---- the loop after the first error: X is the whole, `rest` what is left of it
module _ {X rest : Visited} {I J S R : List ℕ} (w : Later X I J S R rest) where
  pub later_on : {o : Outcome} {s k : ℕ} {I' S' : List ℕ} {a next : Visited} → rest ≡ next → Met o false s k J I' R S' a → Later X I I' S S' next
  later_on e m =
      record {
        answer = sym e ∙ w.answer;
        same_i = m.calm_i.quiet refl ∙ w.same_i;
        same_s = m.calm_s.quiet refl ∙ w.same_s;
      }

  pub later_decided : {o : Outcome} {s k : ℕ} {I' S' : List ℕ} {a r : Visited} → r ≡ rest → Met o false s k J I' R S' a → Later X I I' S S' r
  later_decided e m = later_on (sym e) m

  pub later_end : {r : Visited} → rest ≡ r → Later X I J S R r
  later_end e = record { answer = sym e ∙ w.answer; same_i = w.same_i; same_s = w.same_s }
