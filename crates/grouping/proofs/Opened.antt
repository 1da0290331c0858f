-- A visit of a table finds what a visit of the table with its additionals opened finds, but for allOf steps. Assumes nothing.
use Prim.Native.Nat.{ℕ, zero, suc, ◌<◌, ◌≤◌}
use mathlib.Core.Path.{◌≡◌, refl, ap, ap₂, subst}
use mathlib.Core.List.{List, ◌∷◌, ◌++◌}
use mathlib.Core.Option.{Option, some, none}
use native.Mathlib.Omega.{arith}
use lib.Dec.{eqb}
use Rattle.text.specs.Choice.{pick}
use Rattle.error.specs.declared.Detail.{Detail}
use Rattle.error.specs.declared.Detail.TheVariants.{Property}
use Rattle.error.specs.Paths.{Step}
use Rattle.judge.specs.Judge.{Verdict}
use Rattle.schema.specs.Shape.{Note, Pair, Shape, plain, any_of, all_of, array, object, ref}
use Rattle.std.specs.Prelude.{Ok, Err}
use Rattle.judge.specs.declared.Wrong.TheVariants.{Value, BadPattern, Unanswered}
use Rattle.validator.specs.Outcome.{Error, made, kinded, placed}
use Rattle.validator.specs.Visit.{Nodes, number_or, visit_at}
use Rattle.grouping.specs.Tree.{flat_list, map_option, Every, nil, one, EveryPair, nil_pair, one_pair, Perhaps, absent, present, PerhapsEvery, absents, presents, Children, in_plain, in_any, in_all, in_array, in_object, in_ref, Ordered}
use Rattle.grouping.specs.Same.{without_all}
use Rattle.grouping.specs.Regrouped.{Each, stop, also, Maybe, neither, both, Pairs, end_pairs, pair}
use Rattle.grouping.proofs.Simulation.{Erasure, Says, says_fine, says_wrong, says_bad, says_unanswered, Quiet, Below, Opens, shut, keep, unwrap, Extra, no_extra, extra, Alike, plains, anys, alls, arrays, objects, refs, Simulates, simulation}
use Rattle.grouping.proofs.Parts.{parts_of, parts, opened_shape, opened, parts_is}

-- any detail, any verdict
abbrev pub Any : Detail → Type 0
Any d = Unit {0}

any_says : (v : Verdict) → Says Any v
any_says (Ok u) = says_fine
any_says (Err (Value why node d)) = says_wrong tt
any_says (Err BadPattern) = says_bad
any_says (Err Unanswered) = says_unanswered

pub any_quiet : (D : Nodes) → Quiet Any D
any_quiet D = record { judge = λ w n. any_says (D.judge w n); counted = λ a b n. any_says (D.counted a b n); object_first = λ n. any_says (D.object_first n) }

-- an error without the allOf steps of its schema path
abbrev pub stepless : Error → Error
stepless e = record { number = e.number; node = e.node; schema = e.schema; hint = e.hint; detail = e.detail; steps = e.steps; kinds = without_all e.kinds }

abbrev kind_added : ℕ → Error → Error
kind_added k e = record { number = e.number; node = e.node; schema = e.schema; hint = e.hint; detail = e.detail; steps = e.steps; kinds = pick (eqb k 8) e.kinds (k ∷ e.kinds) }

pub keeps_kind : (k : ℕ) (x y : Error) → stepless x ≡ stepless y → stepless (kinded k x) ≡ stepless (kinded k y)
unfolding without_all
keeps_kind k x y p = ap (kind_added k) p

pub keeps_place : (s : Step) (x y : Error) → stepless x ≡ stepless y → stepless (placed s x) ≡ stepless (placed s y)
keeps_place s x y p = ap (placed s) p

unfoldable pub steplessly : Erasure Error Any
steplessly = record { er = stepless; er' = stepless; kind = keeps_kind; place = keeps_place; key = λ t. tt; reference = λ t. tt }

free : (x : Error) → stepless (kinded 8 x) ≡ stepless x
unfolding without_all
free x = refl

free' : (x : Error) → steplessly.er (kinded 8 x) ≡ steplessly.er x
unfolding steplessly
free' x = free x

-- a record's own number
abbrev pub self : ℕ → ℕ
self s = s

-- a missing entry is told alike where records that stand for one another are the same
pub lacking : {R : ℕ → ℕ → Type 0} → ((s u : ℕ) → R s u → s ≡ u) → (D : Nodes) {s u : ℕ} {a b : Option ℕ} → R s u → Maybe R a b → (k t : ℕ) (note : Option Note) →
    made 2 k (self s) note (Property t (number_or D self a)) ≡ made 2 k (self u) note (Property t (number_or D self b))
lacking is D r neither k t note = ap (λ (x : ℕ). made 2 k x note (Property t (number_or D self none))) (is _ _ r)
lacking is D r (both q) k t note = ap₂ (λ (x y : ℕ). made 2 k x note (Property t y)) (is _ _ r) (is _ _ q)

module _ (look : ℕ → Shape ℕ) (n : ℕ) (O : Ordered look n) where
  record Is (s u : ℕ) : Type 0 where
    within : s < n
    is : s ≡ u

  it : (s : ℕ) → s < n → Is s s
  it s i = record { within = i; is = refl }

  each : {s : ℕ} → s ≤ n → {xs : List ℕ} → Every (λ x. x < s) xs → Each Is xs xs
  each le nil = stop
  each le (one {x = x} p ps) = also (it x (omega arith)) (each le ps)

  pairs : {s : ℕ} → s ≤ n → {xs : List (Pair ℕ)} → EveryPair (λ x. x < s) xs → Pairs Is xs xs
  pairs le nil_pair = end_pairs
  pairs le (one_pair {x = x} p ps) = pair refl (it x.value (omega arith)) (pairs le ps)

  option : {s : ℕ} → s ≤ n → {x : Option ℕ} → Perhaps (λ x. x < s) x → Maybe Is x x
  option le absent = neither
  option le (present {x = x} p) = both (it x (omega arith))

  -- a record, and its parts in its place
  Part : ℕ → Type 0
  Part x = (ss vs : List ℕ) → Opens steplessly Is look ss vs → Opens steplessly Is look (x ∷ ss) (parts look x ++ vs)

  several : {s : ℕ} → ((x : ℕ) → x < s → Part x) → {xs : List ℕ} → Every (λ x. x < s) xs → Opens steplessly Is look xs (flat_list (parts look) xs)
  unfolding flat_list Part
  several h nil = shut
  several h (one {x = x} p ps) = h x p _ _ (several h ps)

  part_of : (x : ℕ) → x < n → ((y : ℕ) → y < x → Part y) → (sh : Shape ℕ) → look x ≡ sh → Children (λ y. y < x) sh → (ss vs : List ℕ) →
      Opens steplessly Is look ss vs → Opens steplessly Is look (x ∷ ss) (parts_of (parts look) x sh ++ vs)
  unfolding parts_of
  part_of x i h (plain w) e c ss vs r = keep (it x i) r
  part_of x i h (any_of note xs) e c ss vs r = keep (it x i) r
  part_of x i h (all_of none xs) e (in_all q) ss vs r = unwrap free' e (several h q) r
  part_of x i h (all_of (some note) xs) e c ss vs r = keep (it x i) r
  part_of x i h (array w y) e c ss vs r = keep (it x i) r
  part_of x i h (object o) e c ss vs r = keep (it x i) r
  part_of x i h (ref note t b) e c ss vs r = keep (it x i) r

  part : (f x : ℕ) → x < f → x < n → Part x
  unfolding Part
  part zero x a i ss vs r = absurd (omega arith)
  part (suc f) x a i ss vs r = rw (parts_is look n O x i) (part_of x i (λ y p. part f y (omega arith) (omega arith)) (look x) refl (O x i) ss vs r)

  extras : {s : ℕ} → s ≤ n → {x : Option (List ℕ)} → PerhapsEvery (λ x. x < s) x → Extra steplessly Is look x (map_option (flat_list (parts look)) x)
  extras le absents = no_extra
  extras {s} le (presents ps) = extra (several (λ x p. part (suc x) x (omega arith) (omega arith)) ps)

  alike : (s : ℕ) → s ≤ n → {sh : Shape ℕ} → Children (λ x. x < s) sh → Alike steplessly Is look sh (opened_shape look sh)
  unfolding opened_shape
  alike s le in_plain = plains
  alike s le (in_any q) = anys (each le q)
  alike s le (in_all q) = alls (each le q)
  alike s le (in_array q) = arrays (option le q)
  alike s le (in_object q) = objects (record { note = refl; props = pairs le q.props; additional = extras le q.additional; required = refl; least = refl; most = refl; closed = refl })
  alike s le in_ref = refs

  module _ (find : ℕ → Option ℕ) (known : (t : ℕ) → Perhaps (λ x. x < n) (find t)) where
    stepping : {s u : ℕ} → Is s u → Alike steplessly Is look (look s) (opened look u)
    unfolding opened
    stepping {s} {u} r = subst (λ (x : ℕ). Alike steplessly Is look (look s) (opened_shape look (look x))) r.is (alike s (omega (arith, r.within)) (O s r.within))

    simulates : Simulates steplessly Is self self look (opened look) find find
    unfolding steplessly
    simulates = record {
      tells = λ r k m note d q. ap (λ (x : ℕ). stepless (made k m x note d)) r.is;
      lacks = λ D r q k t note. ap stepless (lacking (λ s u i. i.is) D r q k t note);
      step = λ r. stepping r;
      found = λ t. option (omega arith) (known t);
    }

    -- what a visit finds at a record it finds at the opened record, unless it meets the depth limit
    pub visit_opened : (D : Nodes) (m j : ℕ) → j ≤ m → (k s : ℕ) → s < n → Below steplessly (visit_at D self look find j k s) (visit_at D self (opened look) find m k s)
    visit_opened D m j le k s i = simulation D (any_quiet D) steplessly Is self self look (opened look) find find simulates m j le k s s (it s i)
