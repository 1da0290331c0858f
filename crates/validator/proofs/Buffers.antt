-- What a step of the code does to both buffers and to what is met. Assumes nothing.
use Prim.Native.Nat.{ℕ, zero, suc, ◌+◌, ◌*◌, ◌≤◌, ◌<◌}
use mathlib.Core.Path.{◌≡◌, refl, sym, ap, subst, ◌∙◌}
use mathlib.Core.Bool.{Bool, true, false}
use mathlib.Core.List.{List, [], ◌∷◌}
use mathlib.Core.Option.{Option}
use native.Mathlib.Omega.{arith}
use native.Mathlib.Nat.{add-zero}
use lib.ListN.{length, get_or, set, length-set}
use lib.Seq.{get_or-set_same, get_or-set_other}
use Rattle.std.specs.Result.{is_err}
use Rattle.text.specs.Choice.{both, pick, clash}
use Rattle.error.specs.declared.Detail.{Detail}
use Rattle.error.specs.Paths.{Step, step_tag, step_word, step_of, path_words}
use Rattle.std.specs.Prelude.{Ok, Err}
use Rattle.judge.specs.declared.Wrong.TheVariants.{Value, BadPattern, Unanswered}
use Rattle.judge.specs.Judge.{Verdict, fine}
use Rattle.schema.specs.Shape.{Note}
use Rattle.std.specs.Prelude.{Ok, Err, IsErrAnd}
use Rattle.validator.specs.declared.paths.Paths.{Paths}
use Rattle.validator.specs.declared.paths.Trail.{Trail}
use Rattle.validator.specs.declared.paths.Stop.{Stop}
use Rattle.validator.specs.declared.paths.Stop.TheVariants.{Refused, Invalid, Ended}
use Rattle.validator.specs.Outcome.{Error, Outcome, accepted, refused, invalid, ended, made, under, place, and_then, verdict}
use Rattle.validator.specs.Met.{Visited, told, steps_of, kinds_of, leaves_step, leaves_kind, mark_in, pair_in, Holds, Calm, Met, Deep, Same}

-- ---- outcomes and how they are told
abbrev counted : Error → ℕ → ℕ → Visited
counted e a b =
    Err (Refused (record {
      number = e.number;
      node = e.node;
      schema = e.schema;
      hint = e.hint;
      detail = e.detail;
      steps = a;
      kinds = b;
    }))

abbrev told_invalid : ℕ → Visited
told_invalid n = Err (Invalid n)

pub told_under : (kind : ℕ) (o : Outcome) (s k : ℕ) → told (under kind o) s k ≡ told o s (k + 1)
told_under kind accepted s k = refl
told_under kind (refused e) s k =
    let h : k + length (kind ∷ e.kinds) ≡ k + 1 + length e.kinds = omega arith in
    ap (λ (m : ℕ). counted e (s + length e.steps) m) h
told_under kind (invalid p) s k = refl
told_under kind (ended n) s k = refl

pub told_place : (p : Step) (o : Outcome) (s k : ℕ) → told (place p o) s k ≡ told o (s + 1) k
told_place p accepted s k = refl
told_place p (refused e) s k =
    let h : s + length (p ∷ e.steps) ≡ s + 1 + length e.steps = omega arith in
    ap (λ (m : ℕ). counted e m (k + length e.kinds)) h
told_place p (invalid q) s k =
    let h : s + length (p ∷ q) ≡ s + 1 + length q = omega arith in
    ap told_invalid h
told_place p (ended n) s k = refl

module _ (s k : ℕ) (r : Visited) where
  pub is_accepted : (o : Outcome) → r ≡ told o s k → r ≡ Ok tt → o ≡ accepted
  is_accepted accepted e h = refl
  is_accepted (refused x) e h = absurd (let z : ◌≡◌ {A = ℕ} 0 1 = cc in omega arith)
  is_accepted (invalid p) e h = absurd (let z : ◌≡◌ {A = ℕ} 0 1 = cc in omega arith)
  is_accepted (ended n) e h = absurd (let z : ◌≡◌ {A = ℕ} 0 1 = cc in omega arith)

  -- the first that is not accepted
  pub and_stop : (o rest : Outcome) (x : Stop) → r ≡ told o s k → r ≡ Err x → and_then o rest ≡ o
  and_stop accepted rest x e h = absurd (let z : ◌≡◌ {A = ℕ} 0 1 = cc in omega arith)
  and_stop (refused y) rest x e h = refl
  and_stop (invalid p) rest x e h = refl
  and_stop (ended n) rest x e h = refl

-- a verdict that stops, and one that does not
module _ (v : Verdict) (schema : ℕ) (note : Option Note) (s k : ℕ) (r : Visited) (e : r ≡ told (verdict v schema note) s k) where
  pub verdict-stop : (rest : Outcome) (x : Stop) → r ≡ Err x → and_then (verdict v schema note) rest ≡ verdict v schema note
  verdict-stop rest x h = and_stop s k r (verdict v schema note) rest x e h

pub verdict_fine : (v : Verdict) (schema : ℕ) (note : Option Note) (s k : ℕ) (r : Visited) → r ≡ told (verdict v schema note) s k → r ≡ Ok tt → v ≡ fine
verdict_fine (Ok u) schema note s k r e h = refl
verdict_fine (Err (Value number node d)) schema note s k r e h = absurd (let z : ◌≡◌ {A = ℕ} 0 1 = cc in omega arith)
verdict_fine (Err BadPattern) schema note s k r e h = absurd (let z : ◌≡◌ {A = ℕ} 0 1 = cc in omega arith)
verdict_fine (Err Unanswered) schema note s k r e h = absurd (let z : ◌≡◌ {A = ℕ} 0 1 = cc in omega arith)

pub and_go : (o rest : Outcome) → o ≡ accepted → and_then o rest ≡ rest
and_go o rest h = rw h

pub and_accepted : (o : Outcome) → and_then o accepted ≡ o
and_accepted accepted = refl
and_accepted (refused x) = refl
and_accepted (invalid p) = refl
and_accepted (ended n) = refl

-- ---- marks
both_no : (log : Bool) → both log false ≡ false
both_no true = refl
both_no false = refl

pub calm_same : {log : Bool} {n : ℕ} {xs : List ℕ} → Calm log n xs xs
calm_same = record { long = refl; kept = λ j h. refl; quiet = λ h. refl }

pub calm_through : {log : Bool} {n : ℕ} {xs ys zs : List ℕ} → Calm log n xs ys → Calm log n ys zs → Calm log n xs zs
calm_through a b =
    record {
      long = b.long ∙ a.long;
      kept = λ j h. b.kept j h ∙ a.kept j h;
      quiet = λ h. b.quiet h ∙ a.quiet h;
    }

pub calm_less : (log : Bool) (m n : ℕ) (xs ys : List ℕ) → m ≤ n → Calm log n xs ys → Calm log m xs ys
calm_less log m n xs ys le a = record { long = a.long; kept = λ j h. a.kept j (omega arith); quiet = a.quiet }

calm_set : (xs : List ℕ) (at w n : ℕ) → n ≤ at → Calm true n xs (set xs at w)
calm_set xs at w n le =
    record {
      long = length-set xs at w;
      kept = λ j h. get_or-set_other xs at j w 0 (λ e. omega arith);
      quiet = λ e. absurd (let z : ◌≡◌ {A = ℕ} 0 1 = cc in omega arith);
    }

pub calm_mark : (log b : Bool) (xs : List ℕ) (at w : ℕ) → Calm log at xs (mark_in (both log b) xs at w)
calm_mark true true xs at w = calm_set xs at w at (omega arith)
calm_mark true false xs at w = calm_same
calm_mark false b xs at w = calm_same

pub calm-pair : (log b : Bool) (xs : List ℕ) (at tag w : ℕ) → Calm log (at * 2) xs (pair_in (both log b) xs at tag w)
calm-pair true true xs at tag w =
    calm_through
    (calm_set xs (at * 2 + 1) w (at * 2) (omega arith))
    (calm_set (set xs (at * 2 + 1) w) (at * 2) tag (at * 2) (omega arith))
calm-pair true false xs at tag w = calm_same
calm-pair false b xs at tag w = calm_same

-- ---- words of a path
pub holds-none : (xs : List ℕ) (at : ℕ) → Holds xs at []
unfolding Holds
holds-none xs at j h = absurd (omega arith)

pub holds_cons : (xs : List ℕ) (at w : ℕ) (p : List ℕ) → at < length xs → Holds xs (at + 1) p → Holds (set xs at w) at (w ∷ p)
unfolding Holds
holds_cons xs at w p lt h zero b = rw add-zero (get_or-set_same xs at w 0 lt)
holds_cons xs at w p lt h (suc j) b =
    let e : at + suc j ≡ at + 1 + j = omega arith in
    get_or-set_other xs at (at + suc j) w 0 (λ z. omega arith) ∙ ap (λ (m : ℕ). get_or xs m 0) e ∙ h j (omega arith)

holds_mark : (log b : Bool) (xs : List ℕ) (at w : ℕ) (p : List ℕ) → at < length xs → log ≡ true → Holds xs (at + 1) p → Holds (mark_in (both log b) xs at w) at (pick b (w ∷ p) [])
holds_mark true true xs at w p lt e h = holds_cons xs at w p lt h
holds_mark true false xs at w p lt e h = holds-none xs at
holds_mark false b xs at w p lt e h = absurd (let z : ◌≡◌ {A = ℕ} 0 1 = cc in omega arith)

holds-pair : (log b : Bool) (xs : List ℕ) (at tag w : ℕ) (p : List ℕ) → at * 2 + 1 < length xs → log ≡ true → Holds xs ((at + 1) * 2) p → Holds (pair_in (both log b) xs at tag w) (at * 2) (pick b (tag ∷ w ∷ p) [])
holds-pair true true xs at tag w p lt e h =
    let d : (at + 1) * 2 ≡ at * 2 + 1 + 1 = omega arith in
    holds_cons (set xs (at * 2 + 1) w) (at * 2) tag (w ∷ p) (rw length-set (omega arith))
    (holds_cons xs (at * 2 + 1) w p lt (subst (λ (q : ℕ). Holds xs q p) d h))
holds-pair true false xs at tag w p lt e h = holds-none xs (at * 2)
holds-pair false b xs at tag w p lt e h = absurd (let z : ◌≡◌ {A = ℕ} 0 1 = cc in omega arith)

-- ---- what is met
pub met_is : {o o' : Outcome} {log : Bool} {s k : ℕ} {I I' S S' : List ℕ} {r : Visited} → o ≡ o' → Met o' log s k I I' S S' r → Met o log s k I I' S S' r
met_is e m = rw e m

pub met_through : {o : Outcome} {log : Bool} {s k : ℕ} {I J I' S R S' : List ℕ} {r : Visited} → Calm log (s * 2) I J → Calm log k S R → Met o log s k J I' R S' r → Met o log s k I I' S S' r
met_through {o} {log} {s} {k} {I} {J} {I'} {S} {R} {S'} ci cs m =
    record {
      answer = m.answer;
      few_i = m.few_i;
      few_k = m.few_k;
      calm_i = calm_through ci m.calm_i;
      calm_s = calm_through cs m.calm_s;
      path_i = m.path_i;
      path_s = m.path_s;
    }

-- an outcome with no steps of its own
pub met-bare : (o : Outcome) (log : Bool) (s k : ℕ) (I I' S S' : List ℕ) (r : Visited) → steps_of o ≡ [] → kinds_of o ≡ [] → s ≤ 64 → k ≤ 64 → r ≡ told o s k → Calm log (s * 2) I I' → Calm log k S S' → Met o log s k I I' S S' r
unfolding path_words
met-bare o log s k I I' S S' r es ek ls lk e ci cs =
    record {
      answer = e;
      few_i = rw es (omega arith);
      few_k = rw ek (omega arith);
      calm_i = ci;
      calm_s = cs;
      path_i = λ t. rw es (holds-none I' (s * 2));
      path_s = λ t. rw ek (holds-none S' k);
    }

pub met-accepted : (log : Bool) (s k : ℕ) (I I' S S' : List ℕ) (r : Visited) → s ≤ 64 → k ≤ 64 → r ≡ Ok tt → Calm log (s * 2) I I' → Calm log k S S' → Met accepted log s k I I' S S' r
met-accepted log s k I I' S S' r ls lk e ci cs = met-bare accepted log s k I I' S S' r refl refl ls lk e ci cs

pub met_ended : (n : ℕ) (log : Bool) (s k : ℕ) (I I' S S' : List ℕ) (r : Visited) → s ≤ 64 → k ≤ 64 → r ≡ Err (Ended n) → Calm log (s * 2) I I' → Calm log k S S' → Met (ended n) log s k I I' S S' r
met_ended n log s k I I' S S' r ls lk e ci cs = met-bare (ended n) log s k I I' S S' r refl refl ls lk e ci cs

verdict_steps : (v : Verdict) (s : ℕ) (note : Option Note) → steps_of (verdict v s note) ≡ []
verdict_steps (Ok u) s note = refl
verdict_steps (Err (Value number node d)) s note = refl
verdict_steps (Err BadPattern) s note = refl
verdict_steps (Err Unanswered) s note = refl

verdict-kinds : (v : Verdict) (s : ℕ) (note : Option Note) → kinds_of (verdict v s note) ≡ []
verdict-kinds (Ok u) s note = refl
verdict-kinds (Err (Value number node d)) s note = refl
verdict-kinds (Err BadPattern) s note = refl
verdict-kinds (Err Unanswered) s note = refl

-- a leaf's verdict, both buffers untouched
pub met-verdict : (v : Verdict) (schema : ℕ) (note : Option Note) (log : Bool) (s k : ℕ) (I S : List ℕ) (r : Visited) → s ≤ 64 → k ≤ 64 → r ≡ told (verdict v schema note) s k → Met (verdict v schema note) log s k I I S S r
met-verdict v schema note log s k I S r ls lk e =
    met-bare (verdict v schema note) log s k I I S S r (verdict_steps v schema note) (verdict-kinds v schema note) ls lk e (calm_same) (calm_same)

pub met_made : (number node schema : ℕ) (note : Option Note) (d : Detail) (log : Bool) (s k : ℕ) (I S : List ℕ) (r : Visited) → s ≤ 64 → k ≤ 64 → r ≡ told (refused (made number node schema note d)) s k → Met (refused (made number node schema note d)) log s k I I S S r
met_made number node schema note d log s k I S r ls lk e =
    met-bare (refused (made number node schema note d)) log s k I I S S r refl refl ls lk e (calm_same) (calm_same)

-- ... where a level, or a part of it, begins
module _ {t : Trail} {below : ℕ} {Q : Paths} {P : List ℕ} (d : Deep t below Q P) {log : Bool} {I S : List ℕ} {r : Visited} where
  pub deep_verdict : (v : Verdict) (schema : ℕ) (note : Option Note) → r ≡ told (verdict v schema note) t.steps t.kinds → Met (verdict v schema note) log t.steps t.kinds I I S S r
  deep_verdict v schema note e = met-verdict v schema note log t.steps t.kinds I S r (omega (arith, d)) (omega (arith, d)) e

  pub deep_made : (number node schema : ℕ) (note : Option Note) (detail : Detail) → r ≡ told (refused (made number node schema note detail)) t.steps t.kinds → Met (refused (made number node schema note detail)) log t.steps t.kinds I I S S r
  deep_made number node schema note detail e = met_made number node schema note detail log t.steps t.kinds I S r (omega (arith, d)) (omega (arith, d)) e

  module _ {I' S' : List ℕ} where
    pub deep_accepted : r ≡ Ok tt → Calm log (t.steps * 2) I I' → Calm log t.kinds S S' → Met accepted log t.steps t.kinds I I' S S' r
    deep_accepted e ci cs = met-accepted log t.steps t.kinds I I' S S' r (omega (arith, d)) (omega (arith, d)) e ci cs

    pub deep_ended : {n : ℕ} → r ≡ Err (Ended n) → Calm log (t.steps * 2) I I' → Calm log t.kinds S S' → Met (ended n) log t.steps t.kinds I I' S S' r
    deep_ended {n} e ci cs = met_ended n log t.steps t.kinds I I' S S' r (omega (arith, d)) (omega (arith, d)) e ci cs

-- what `?` passes up is what it was given
pub passed_up : (r : Visited) (x : Stop) → IsErrAnd r (λ y. y ≡ x) → Err x ≡ r
passed_up (Ok _) x h = absurd h
passed_up (Err y) x h = ap Err (sym h)

pub same_through : {P Q R : Paths} → Same P Q → Same Q R → Same P R
same_through a b = record { instance = b.instance ∙ a.instance; schema = b.schema ∙ a.schema }

-- a loop so far: X is what is left of it, and both buffers are calm
pub record Walked (X rest : Outcome) (log : Bool) (s k : ℕ) (I J S R : List ℕ) : Type 0 where
  pub left : X ≡ rest
  pub instance : Calm log (s * 2) I J
  pub schema : Calm log k S R

module _ {X rest : Outcome} {log : Bool} {s k : ℕ} {I J S R : List ℕ} (g : Walked X rest log s k I J S R) where
  pub walked_on : {o next : Outcome} {I' S' : List ℕ} {r : Visited} → X ≡ next → Met o log s k J I' R S' r → Walked X next log s k I I' S S'
  walked_on e m = record { left = e; instance = calm_through g.instance m.calm_i; schema = calm_through g.schema m.calm_s }

  pub walked_stop : {o : Outcome} {I' S' : List ℕ} {x : Stop} {r r' : Visited} → X ≡ o → r ≡ Err x → IsErrAnd r' (λ y. y ≡ x) → Met o log s k J I' R S' r → Met X log s k I I' S S' r'
  walked_stop {r' = r'} e q up m = rw (← (q ∙ passed_up r' _ up)) (met_is e (met_through g.instance g.schema m))

  pub walked_kept : {I' S' : List ℕ} {r : Visited} → Met X log s k J I' R S' r → Met X log s k I I' S S' r
  walked_kept m = met_through g.instance g.schema m

module _ {X rest : Outcome} {log : Bool} {t : Trail} {I J S R : List ℕ} (g : Walked X rest log t.steps t.kinds I J S R) {below : ℕ} {Q : Paths} {P : List ℕ} (d : Deep t below Q P) where
  pub walked_all : rest ≡ accepted → Met X log t.steps t.kinds I J S R (Ok tt)
  walked_all e = met_is (g.left ∙ e) (deep_accepted d refl g.instance g.schema)

  pub walked_ended : {n : ℕ} → rest ≡ ended n → Met X log t.steps t.kinds I J S R (Err (Ended n))
  walked_ended e = met_is (g.left ∙ e) (deep_ended d refl g.instance g.schema)

-- what is accepted further down is accepted here
pub met_up : (o o' : Outcome) (log : Bool) (s k s' k' : ℕ) (I I' S S' : List ℕ) (r : Visited) → s ≤ s' → k ≤ k' → o' ≡ accepted → r ≡ Ok tt → Met o log s' k' I I' S S' r → Met o' log s k I I' S S' r
met_up o o' log s k s' k' I I' S S' r ls lk e a m =
    rw e (met-accepted log s k I I' S S' r (omega (arith, m.few_i)) (omega (arith, m.few_k)) a
    (calm_less log (s * 2) (s' * 2) I I' (omega arith) m.calm_i)
    (calm_less log k k' S S' lk m.calm_s))

under_kinds : (kind : ℕ) (o : Outcome) (s k : ℕ) → kinds_of (under kind o) ≡ pick (leaves_kind (told o s k)) (kind ∷ kinds_of o) []
under_kinds kind accepted s k = refl
under_kinds kind (refused e) s k = refl
under_kinds kind (invalid p) s k = refl
under_kinds kind (ended n) s k = refl

under_steps : (kind : ℕ) (o : Outcome) → steps_of (under kind o) ≡ steps_of o
under_steps kind accepted = refl
under_steps kind (refused e) = refl
under_steps kind (invalid p) = refl
under_steps kind (ended n) = refl

few-pick : (b : Bool) (k w : ℕ) (p : List ℕ) → k + 1 + length p ≤ 64 → k + length (pick b (w ∷ p) []) ≤ 64
few-pick true k w p h = omega arith
few-pick false k w p h = omega arith

-- one schema step more
pub met_under : (o : Outcome) (log on : Bool) (s k kind : ℕ) (I I' S R S' : List ℕ) (r : Visited) → Met o log s (k + 1) I I' S R r → k < length R → on ≡ both log (leaves_kind r) → S' ≡ mark_in on R k kind → Met (under kind o) log s k I I' S S' r
met_under o log on s k kind I I' S R S' r m lt b marked =
    let e : S' ≡ mark_in (both log (leaves_kind r)) R k kind = marked ∙ ap (λ (x : Bool). mark_in x R k kind) b in
    let p : kinds_of (under kind o) ≡ pick (leaves_kind r) (kind ∷ kinds_of o) [] = under_kinds kind o s (k + 1) ∙ ap (λ (x : Visited). pick (leaves_kind x) (kind ∷ kinds_of o) []) (sym m.answer) in
    let q : steps_of (under kind o) ≡ steps_of o = under_steps kind o in
    record {
      answer = m.answer ∙ sym (told_under kind o s k);
      few_i = rw q m.few_i;
      few_k = rw p (few-pick (leaves_kind r) k kind (kinds_of o) m.few_k);
      calm_i = m.calm_i;
      calm_s = calm_through (calm_less log k (k + 1) S R (omega arith) m.calm_s) (rw e (calm_mark log (leaves_kind r) R k kind));
      path_i = λ t. rw q (m.path_i t);
      path_s = λ t. rw (p, e) (holds_mark log (leaves_kind r) R k kind (kinds_of o) lt t (m.path_s t));
    }

place_words : (p : Step) (o : Outcome) (s k : ℕ) → path_words (steps_of (place p o)) ≡ pick (leaves_step (told o s k)) (step_tag p ∷ step_word p ∷ path_words (steps_of o)) []
unfolding path_words
place_words p accepted s k = refl
place_words p (refused e) s k = refl
place_words p (invalid q) s k = refl
place_words p (ended n) s k = refl

place_kinds : (p : Step) (o : Outcome) → kinds_of (place p o) ≡ kinds_of o
place_kinds p accepted = refl
place_kinds p (refused e) = refl
place_kinds p (invalid q) = refl
place_kinds p (ended n) = refl

few_place : (p : Step) (o : Outcome) (s : ℕ) → s + 1 + length (steps_of o) ≤ 64 → s + length (steps_of (place p o)) ≤ 64
few_place p accepted s h = omega arith
few_place p (refused e) s h = omega arith
few_place p (invalid q) s h = omega arith
few_place p (ended n) s h = omega arith

step_tag_lem : (tag w : ℕ) → tag < 2 → step_tag (step_of tag w) ≡ tag
step_tag_lem zero w h = refl
step_tag_lem (suc zero) w h = refl
step_tag_lem (suc (suc n)) w h = absurd (omega arith)

step_word_lem : (tag w : ℕ) → step_word (step_of tag w) ≡ w
step_word_lem zero w = refl
step_word_lem (suc n) w = refl

-- one instance step more
pub met_part : (o : Outcome) (log on : Bool) (s k tag w : ℕ) (I J I' S S' : List ℕ) (r : Visited) → Met o log (s + 1) k I J S S' r → tag < 2 → s * 2 + 1 < length J → on ≡ both log (leaves_step r) → I' ≡ pair_in on J s tag w → Met (place (step_of tag w) o) log s k I I' S S' r
met_part o log on s k tag w I J I' S S' r m small lt b marked =
    let e : I' ≡ pair_in (both log (leaves_step r)) J s tag w = marked ∙ ap (λ (x : Bool). pair_in x J s tag w) b in
    let st : Step = step_of tag w in
    let p : path_words (steps_of (place st o)) ≡ pick (leaves_step r) (tag ∷ w ∷ path_words (steps_of o)) [] =
    place_words st o (s + 1) k
    ∙ ap (λ (x : Visited). pick (leaves_step x) (step_tag st ∷ step_word st ∷ path_words (steps_of o)) []) (sym m.answer)
    ∙ ap (λ (x : ℕ). pick (leaves_step r) (x ∷ step_word st ∷ path_words (steps_of o)) []) (step_tag_lem tag w small)
    ∙ ap (λ (x : ℕ). pick (leaves_step r) (tag ∷ x ∷ path_words (steps_of o)) []) (step_word_lem tag w) in
    let q : kinds_of (place st o) ≡ kinds_of o = place_kinds st o in
    record {
      answer = m.answer ∙ sym (told_place st o s k);
      few_i = few_place st o s m.few_i;
      few_k = rw q m.few_k;
      calm_i = calm_through (calm_less log (s * 2) ((s + 1) * 2) I J (omega arith) m.calm_i) (rw e (calm-pair log (leaves_step r) J s tag w));
      calm_s = m.calm_s;
      path_i = λ t. rw (p, e) (holds-pair log (leaves_step r) J s tag w (path_words (steps_of o)) lt t (m.path_i t));
      path_s = λ t. rw q (m.path_s t);
    }
