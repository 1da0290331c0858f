-- Shapes and their children: what holds of all children of a record, under a larger bound and of lists put together. Assumes nothing.
use Prim.Native.Nat.{ℕ, ◌<◌, ◌≤◌}
use mathlib.Core.Path.{◌≡◌, ap}
use mathlib.Core.List.{List, ◌++◌}
use mathlib.Core.Option.{Option}
use native.Mathlib.Omega.{arith}
use Rattle.schema.specs.Shape.{Pair, Names, Object, Shape, plain, any_of, all_of, array, object, ref}
use Rattle.grouping.specs.Tree.{Every, nil, one, EveryPair, nil_pair, one_pair, Perhaps, absent, present, PerhapsEvery, absents, presents, NamesIn, in_none, in_detects, in_named, ObjectIn, Children, in_plain, in_any, in_all, in_array, in_object, in_ref}

-- one shape is one object's
object_or : {A : Type 0} → Object A → Shape A → Object A
object_or d (plain w) = d
object_or d (any_of note xs) = d
object_or d (all_of note xs) = d
object_or d (array w x) = d
object_or d (object o) = o
object_or d (ref note t b) = d

pub object_is : {A : Type 0} {o p : Object A} → object o ≡ object p → o ≡ p
unfolding object_or
object_is {o} {p} e = ap (object_or o) e

-- what holds of an object's children
pub children-object : {P : ℕ → Type 0} {o : Object ℕ} → Children P (object o) → ObjectIn P o
children-object (in_object q) = q

pub append_in : {P : ℕ → Type 0} {xs ys : List ℕ} → Every P xs → Every P ys → Every P (xs ++ ys)
append_in nil b = b
append_in (one p ps) b = one p (append_in ps b)

-- what is below a bound is below a larger one
pub every_less : {s n : ℕ} → s ≤ n → {xs : List ℕ} → Every (λ x. x < s) xs → Every (λ x. x < n) xs
every_less le nil = nil
every_less le (one {x = x} p ps) = one {x = x} (omega arith) (every_less le ps)

pub pairs_less : {s n : ℕ} → s ≤ n → {xs : List (Pair ℕ)} → EveryPair (λ x. x < s) xs → EveryPair (λ x. x < n) xs
pairs_less le nil_pair = nil_pair
pairs_less le (one_pair {x = x} p ps) = one_pair {x = x} (omega arith) (pairs_less le ps)

pub option_less : {s n : ℕ} → s ≤ n → {x : Option ℕ} → Perhaps (λ x. x < s) x → Perhaps (λ x. x < n) x
option_less le absent = absent
option_less le (present {x = x} p) = present {x = x} (omega arith)

pub every-perhaps : {s n : ℕ} → s ≤ n → {x : Option (List ℕ)} → PerhapsEvery (λ x. x < s) x → PerhapsEvery (λ x. x < n) x
every-perhaps le absents = absents
every-perhaps le (presents q) = presents (every_less le q)

pub every-names : {s n : ℕ} → s ≤ n → {x : Names ℕ} → NamesIn (λ x. x < s) x → NamesIn (λ x. x < n) x
every-names le in_none = in_none
every-names le (in_detects {x = x} p) = in_detects {x = x} (omega arith)
every-names le (in_named q) = in_named (every_less le q)

pub object_less : {s n : ℕ} → s ≤ n → {o : Object ℕ} → ObjectIn (λ x. x < s) o → ObjectIn (λ x. x < n) o
object_less le q = record { props = pairs_less le q.props; patterns = pairs_less le q.patterns; additional = every-perhaps le q.additional; names = every-names le q.names }

pub children_less : {s n : ℕ} → s ≤ n → {sh : Shape ℕ} → Children (λ x. x < s) sh → Children (λ x. x < n) sh
children_less le in_plain = in_plain
children_less le (in_any q) = in_any (every_less le q)
children_less le (in_all q) = in_all (every_less le q)
children_less le (in_array q) = in_array (option_less le q)
children_less le (in_object q) = in_object (object_less le q)
children_less le in_ref = in_ref
