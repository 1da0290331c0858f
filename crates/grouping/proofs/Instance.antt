-- One list of bases in one table is an instance: every record is itself, and the object with the empty one over its run stands for the
-- other. Assumes nothing.
use Prim.Native.Nat.{ℕ, ◌≤◌, ◌<◌}
use mathlib.Core.Path.{◌≡◌, refl, subst}
use mathlib.Core.List.{List, [], ◌∷◌, ◌++◌}
use mathlib.Core.Option.{Option, some}
use native.Mathlib.Omega.{arith}
use Rattle.schema.specs.Shape.{Pair, Names, Object, Shape, plain, any_of, all_of, array, object, ref}
use Rattle.schema.specs.Look.{Words, look}
use Rattle.grouping.specs.Record.{count}
use Rattle.grouping.specs.Tree.{Every, nil, one, EveryPair, nil_pair, one_pair, Perhaps, absent, present, PerhapsEvery, absents, presents, NamesIn, in_none, in_detects, in_named, ObjectIn, Children, in_plain, in_any, in_all, in_array, in_object, in_ref}
use Rattle.grouping.specs.Regrouped.{Grouped, Each, stop, also, Maybe, neither, both, Pairs, end_pairs, pair, Parts, no_parts, parts, Namings, no_names, detected, namings, Kin, Runs, done, base, run, BasesKin, no_base, runs, Related, plains, anys, alls, arrays, objects, refs, Regrouped}
use Rattle.grouping.proofs.Shapes.{children-object}
use Rattle.grouping.proofs.Growing.{Sound}
use Rattle.grouping.proofs.Frame.{ordered}

module _ (T : Words) (z : Sound T) (d d' : ℕ) where
  -- every record is itself, and d' stands for d
  pub data For : ℕ → ℕ → Type 0 where
    itself : {s : ℕ} → s < count T → For s s
    instead : For d d'

  pub find_self : {x : Option ℕ} → Perhaps (λ x. x < count T) x → Maybe For x x
  find_self absent = neither
  find_self (present p) = both (itself p)

  each_self : {n : ℕ} → n ≤ count T → {xs : List ℕ} → Every (λ x. x < n) xs → Each For xs xs
  each_self le nil = stop
  each_self le (one {x = x} p ps) = also (itself {s = x} (omega arith)) (each_self le ps)

  pairs_self : {n : ℕ} → n ≤ count T → {xs : List (Pair ℕ)} → EveryPair (λ x. x < n) xs → Pairs For xs xs
  pairs_self le nil_pair = end_pairs
  pairs_self le (one_pair {x = x} p ps) = pair refl (itself {s = x.value} (omega arith)) (pairs_self le ps)

  option_self : {n : ℕ} → n ≤ count T → {x : Option ℕ} → Perhaps (λ x. x < n) x → Maybe For x x
  option_self le absent = neither
  option_self le (present {x = x} p) = both (itself {s = x} (omega arith))

  parts_self : {n : ℕ} → n ≤ count T → {x : Option (List ℕ)} → PerhapsEvery (λ x. x < n) x → Parts For x x
  parts_self le absents = no_parts
  parts_self le (presents q) = parts (each_self le q)

  names_self : {n : ℕ} → n ≤ count T → {x : Names ℕ} → NamesIn (λ x. x < n) x → Namings For x x
  names_self le in_none = no_names
  names_self le (in_detects {x = x} p) = detected (itself {s = x} (omega arith))
  names_self le (in_named q) = namings (each_self le q)

  kin_self : {n : ℕ} → n ≤ count T → {o : Object ℕ} → ObjectIn (λ x. x < n) o → Kin For o o
  kin_self le q = record { note = refl; props = pairs_self le q.props; patterns = pairs_self le q.patterns; additional = parts_self le q.additional; required = refl; least = refl; most = refl; closed = refl; names = names_self le q.names; naming = refl }

  runs_self : {n : ℕ} → n ≤ count T → {xs : List ℕ} → Every (λ x. x < n) xs → Runs T T For xs xs
  runs_self le nil = done
  runs_self le (one {x = x} p ps) = base (itself {s = x} (omega arith)) (runs_self le ps)

  bases_self : {n : ℕ} → n ≤ count T → {x : Option (List ℕ)} → PerhapsEvery (λ x. x < n) x → BasesKin T T For x x
  bases_self le absents = no_base
  bases_self le (presents q) = runs (runs_self le q)

  related_self : (s : ℕ) → s < count T → (sh : Shape ℕ) → look T s ≡ sh → Children (λ x. x < s) sh → Related T T For s s
  related_self s i (plain w) e in_plain = plains w e e
  related_self s i (any_of note xs) e (in_any q) = anys note xs xs e e (each_self (omega arith) q)
  related_self s i (all_of note xs) e (in_all q) = alls note xs xs e e (each_self (omega arith) q)
  related_self s i (array w x) e (in_array q) = arrays w x x e e (option_self (omega arith) q)
  related_self s i (object o) e (in_object q) = objects o o e e (kin_self {n = s} (omega arith) q) (bases_self (omega arith) (z.placed.bases_below s i))
  related_self s i (ref note t b) e in_ref = refs note t b e e

  module _ (e : ℕ) (w : Grouped T d d' e) (i : d < count T) (i' : d' < count T) where
    split : {n : ℕ} → n ≤ count T → (xs : List ℕ) {ys zs : List ℕ} → Every (λ x. x < n) (xs ++ ys) → Runs T T For ys zs → Runs T T For (xs ++ ys) (xs ++ zs)
    split le [] q r = r
    split le (x ∷ xs) (one p ps) r = base (itself {s = x} (omega arith)) (split le xs ps r)

    left_part : {P : ℕ → Type 0} (xs ys : List ℕ) → Every P (xs ++ ys) → Every P xs
    left_part [] ys q = nil
    left_part (x ∷ xs) ys (one p ps) = one p (left_part xs ys ps)

    right_part : {P : ℕ → Type 0} (xs ys : List ℕ) → Every P (xs ++ ys) → Every P ys
    right_part [] ys q = q
    right_part (x ∷ xs) ys (one p ps) = right_part xs ys ps

    inside : {P : ℕ → Type 0} {xs : List ℕ} → PerhapsEvery P (some xs) → Every P xs
    inside (presents q) = q

    swapped : Related T T For d d'
    swapped =
        let q : Every (λ x. x < d) (w.before ++ (w.run ++ w.after)) = inside (subst (PerhapsEvery (λ x. x < d)) w.flat_bases (z.placed.bases_below d i)) in
        let q₂ : Every (λ x. x < d) (w.run ++ w.after) = right_part w.before (w.run ++ w.after) q in
        objects w.own w.own w.flat w.nested (kin_self {n = d} (omega arith) (children-object (subst (Children (λ x. x < d)) w.flat (ordered z d i))))
        (rw (w.flat_bases, w.nested_bases) (runs (split {n = d} (omega arith) w.before q
        (run w.wrapper w.wrapper_bases (runs_self {n = d} (omega arith) (left_part w.run w.after q₂)) (runs_self {n = d} (omega arith) (right_part w.run w.after q₂))))))

    here : (s s' : ℕ) → For s s' → s < count T
    here s s' (itself p) = p
    here s s' instead = i

    there : (s s' : ℕ) → For s s' → s' < count T
    there s s' (itself p) = p
    there s s' instead = i'

    links : (s s' : ℕ) → For s s' → Related T T For s s'
    links s s' (itself {s = x} p) = related_self x p (look T x) refl (ordered z x p)
    links s s' instead = swapped

    -- the registries name records that stand for one another
    pub regrouped : (find find' : ℕ → Option ℕ) → ((t : ℕ) → Maybe For (find t) (find' t)) → Regrouped T T For find find'
    regrouped find find' found = record { within = here; within' = there; related = links; found = found }
