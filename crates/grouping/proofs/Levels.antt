-- Raising the level count changes no answer other than 23. Assumes nothing.
use Prim.Native.Nat.{ℕ, ◌≤◌}
use mathlib.Core.Path.{◌≡◌, refl, ap, subst}
use mathlib.Core.List.{List, [], ◌∷◌}
use mathlib.Core.Option.{Option, some, none}
use Rattle.error.specs.declared.Mode.{Mode}
use Rattle.layout.specs.Layout.{Tables}
use Rattle.lookup.specs.Lookup.{answer_of_pattern, find_in}
use Rattle.schema.specs.Shape.{Pair, Shape, plain, any_of, all_of, array, object, ref}
use Rattle.schema.specs.Look.{words_of, look}
use Rattle.validator.specs.Outcome.{Error, Outcome, refused, ended, made, kinded, placed}
use Rattle.validator.specs.Visit.{Nodes, visit_at}
use Rattle.validator.specs.Nodes.{nodes_of}
use Rattle.validator.specs.Validate.{visit_of}
use Rattle.grouping.specs.Regrouped.{Each, stop, also, Maybe, neither, both, Pairs, end_pairs, pair}
use Rattle.grouping.proofs.Simulation.{Erasure, Below, deep, accepts, refuses, invalids, ends, Opens, shut, keep, Extra, no_extra, extra, Alike, plains, anys, alls, arrays, objects, refs, Simulates, simulation}
use Rattle.grouping.proofs.Opened.{Any, any_quiet, self, lacking}

exactly : Erasure Error Any
exactly = record { er = λ e. e; er' = λ e. e; kind = λ k x y p. ap (kinded k) p; place = λ s x y p. ap (placed s) p; key = λ t. tt; reference = λ t. tt }

Is : ℕ → ℕ → Type 0
Is s u = s ≡ u

module _ (look : ℕ → Shape ℕ) (find : ℕ → Option ℕ) where
  each : (xs : List ℕ) → Each Is xs xs
  unfolding Is
  each [] = stop
  each (x ∷ xs) = also refl (each xs)

  pairs : (xs : List (Pair ℕ)) → Pairs Is xs xs
  unfolding Is
  pairs [] = end_pairs
  pairs (x ∷ xs) = pair refl refl (pairs xs)

  opens : (xs : List ℕ) → Opens exactly Is look xs xs
  unfolding Is
  opens [] = shut
  opens (x ∷ xs) = keep refl (opens xs)

  option : (x : Option ℕ) → Maybe Is x x
  unfolding Is
  option none = neither
  option (some x) = both refl

  extras : (x : Option (List ℕ)) → Extra exactly Is look x x
  extras none = no_extra
  extras (some xs) = extra (opens xs)

  alike : (sh : Shape ℕ) → Alike exactly Is look sh sh
  alike (plain w) = plains
  alike (any_of note xs) = anys (each xs)
  alike (all_of note xs) = alls (each xs)
  alike (array w x) = arrays (option x)
  alike (object o) = objects (record { note = refl; props = pairs o.props; additional = extras o.additional; required = refl; least = refl; most = refl; closed = refl })
  alike (ref note t b) = refs

  stepping : {s u : ℕ} → Is s u → Alike exactly Is look (look s) (look u)
  unfolding Is
  stepping {s} {u} r = subst (λ (x : ℕ). Alike exactly Is look (look s) (look x)) r (alike (look s))

  simulates : Simulates exactly Is self self look look find find
  unfolding exactly Is
  simulates =
      record {
        tells = λ r k m note d q. ap (λ (x : ℕ). made k m x note d) r;
        lacks = λ D r q k t note. lacking (λ s u i. i) D r q k t note;
        step = λ r. stepping r;
        found = λ t. option (find t);
      }

  exact : {a b : Outcome} → Below exactly a b → (a ≡ ended 23 → ⊥) → a ≡ b
  unfolding exactly
  exact deep h = absurd (h refl)
  exact accepts h = refl
  exact (refuses e) h = ap refused e
  exact invalids h = refl
  exact ends h = refl

  visits : (D : Nodes) (j m : ℕ) → j ≤ m → (n s : ℕ) → (visit_at D self look find j n s ≡ ended 23 → ⊥) → visit_at D self look find j n s ≡ visit_at D self look find m n s
  unfolding Is
  visits D j m le n s = exact (simulation D (any_quiet D) exactly Is self self look look find find simulates m j le n s s refl)

-- an answer with j levels, other than 23, is the answer with m levels: in any tables, of any node and schema, in both modes
pub more_levels : (T : Tables) (mode : Mode) (j m : ℕ) → j ≤ m → (node s : ℕ) → (visit_of T mode j node s ≡ ended 23 → ⊥) → visit_of T mode j node s ≡ visit_of T mode m node s
unfolding visit_of
more_levels T mode j m le node s = visits (look (words_of T)) (find_in T) (nodes_of T mode (answer_of_pattern T.pool T.texts T.patterns)) j m le node s
