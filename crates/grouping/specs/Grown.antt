-- What a schema record stands for, as a data type: the kinds of 01, children in place, joins opened. Assumes nothing.
use Rattle.std.specs.Prelude.{ℕ, ◌≡◌, refl, Bool, List, [], ◌∷◌}
use Rattle.std.proofs.Common.{ap}
use Rattle.std.proofs.Math.Option.{Option, some, none}
use Rattle.schema.specs.Shape.{Note, Pair, Own, Names, nameless, detects, named, Shape, plain, any_of, all_of, array, object, ref}
use Rattle.grouping.specs.Tree.{Trees}

-- an object's fields that are no schemas
pub record Facts : Type 0 where
  pub note : Option Note
  pub required : List ℕ
  pub least : ℕ
  pub most : ℕ
  pub closed : Bool
  pub naming : ℕ

mutual
  pub data Tree : Type 0 where
    t_plain : Own → Tree
    t_any : Option Note → Forest → Tree
    t_all : Option Note → Forest → Tree
    t_array : Own → Twig → Tree
    t_object : Facts → Boughs → Boughs → Parts → Naming → Tree
    t_ref : Option Note → ℕ → Bool → Tree

  pub data Forest : Type 0 where
    bare : Forest
    grows : Tree → Forest → Forest

  pub data Twig : Type 0 where
    no_twig : Twig
    twig : Tree → Twig

  pub data Boughs : Type 0 where
    no_bough : Boughs
    bough : ℕ → Tree → Boughs → Boughs

  pub data Parts : Type 0 where
    no_parts : Parts
    parts : Forest → Parts

  pub data Naming : Type 0 where
    unnamed : Naming
    detected : Tree → Naming
    namings : Forest → Naming

unfoldable pub forest : List Tree → Forest
forest [] = bare
forest (x ∷ xs) = grows x (forest xs)

unfoldable pub list : Forest → List Tree
list bare = []
list (grows x xs) = x ∷ list xs

list_forest : (xs : List Tree) → list (forest xs) ≡ xs
unfolding list forest
list_forest [] = refl
list_forest (x ∷ xs) = ap (λ (y : List Tree). x ∷ y) (list_forest xs)

unfoldable pub boughs : List (Pair Tree) → Boughs
boughs [] = no_bough
boughs (x ∷ xs) = bough x.key x.value (boughs xs)

unfoldable pub pairs : Boughs → List (Pair Tree)
pairs no_bough = []
pairs (bough k x xs) = record { key = k; value = x } ∷ pairs xs

pairs-boughs : (xs : List (Pair Tree)) → pairs (boughs xs) ≡ xs
unfolding pairs boughs
pairs-boughs [] = refl
pairs-boughs (x ∷ xs) = ap (λ (y : List (Pair Tree)). x ∷ y) (pairs-boughs xs)

unfoldable pub to_twig : Option Tree → Twig
to_twig none = no_twig
to_twig (some x) = twig x

unfoldable pub of_twig : Twig → Option Tree
of_twig no_twig = none
of_twig (twig x) = some x

twig-back : (x : Option Tree) → of_twig (to_twig x) ≡ x
unfolding of_twig to_twig
twig-back none = refl
twig-back (some x) = refl

unfoldable pub to_parts : Option (List Tree) → Parts
to_parts none = no_parts
to_parts (some xs) = parts (forest xs)

unfoldable pub of_parts : Parts → Option (List Tree)
of_parts no_parts = none
of_parts (parts x) = some (list x)

parts-back : (x : Option (List Tree)) → of_parts (to_parts x) ≡ x
unfolding of_parts to_parts
parts-back none = refl
parts-back (some xs) = ap some (list_forest xs)

unfoldable pub to_naming : Names Tree → Naming
to_naming nameless = unnamed
to_naming (detects x) = detected x
to_naming (named xs) = namings (forest xs)

unfoldable pub of_naming : Naming → Names Tree
of_naming unnamed = nameless
of_naming (detected x) = detects x
of_naming (namings x) = named (list x)

naming-back : (x : Names Tree) → of_naming (to_naming x) ≡ x
unfolding of_naming to_naming
naming-back nameless = refl
naming-back (detects x) = refl
naming-back (named xs) = ap named (list_forest xs)

unfoldable pub grow : Shape Tree → Tree
grow (plain w) = t_plain w
grow (any_of note xs) = t_any note (forest xs)
grow (all_of note xs) = t_all note (forest xs)
grow (array w x) = t_array w (to_twig x)
grow (object o) = t_object (record { note = o.note; required = o.required; least = o.least; most = o.most; closed = o.closed; naming = o.naming }) (boughs o.props) (boughs o.patterns) (to_parts o.additional) (to_naming o.names)
grow (ref note t b) = t_ref note t b

unfoldable pub see : Tree → Shape Tree
see (t_plain w) = plain w
see (t_any note xs) = any_of note (list xs)
see (t_all note xs) = all_of note (list xs)
see (t_array w x) = array w (of_twig x)
see (t_object f p q a n) = object (record { note = f.note; props = pairs p; patterns = pairs q; additional = of_parts a; required = f.required; least = f.least; most = f.most; closed = f.closed; names = of_naming n; naming = f.naming })
see (t_ref note t b) = ref note t b

pub see-grow : (x : Shape Tree) → see (grow x) ≡ x
unfolding see grow
see-grow (plain w) = refl
see-grow (any_of note xs) = ap (λ (y : List Tree). any_of note y) (list_forest xs)
see-grow (all_of note xs) = ap (λ (y : List Tree). all_of note y) (list_forest xs)
see-grow (array w x) = ap (λ (y : Option Tree). array w y) (twig-back x)
see-grow (object o) = λ i. object (record { note = o.note; props = pairs-boughs o.props i; patterns = pairs-boughs o.patterns i; additional = parts-back o.additional i; required = o.required; least = o.least; most = o.most; closed = o.closed; names = naming-back o.names i; naming = o.naming })
see-grow (ref _ t b) = refl

unfoldable pub trees : Trees Tree
trees = record { build = grow; look = see; back = see-grow }
