-- Demand 3 applied to the example: it is not empty, and says of its two schemas what was computed of each. Assumes nothing.
use Prim.Native.Nat.{◌<◌}
use mathlib.Core.Path.{◌≡◌, refl, sym, ◌∙◌}
use mathlib.Core.List.{[], ◌∷◌}
use native.Mathlib.Omega.{arith}
use Rattle.layout.specs.Layout.{schema_count}
use Rattle.lookup.specs.Lookup.{find_in}
use Rattle.schema.specs.Look.{words_of}
use Rattle.grouping.specs.Values.{grown}
use Rattle.grouping.specs.Demand.{opened, compiling, SameSchema}
use Rattle.grouping.proofs.Grouping.{bases_may_be_grouped, bases_may_be_grouped_anywhere}
use Rattle.grouping.proofs.WellFormed.{checked}
use Rattle.grouping.proofs.Instance.{For, itself, instead, regrouped}
use Rattle.grouping.proofs.Example.{plainly, string, thing, eager_ref, list_of_it, T, T', room, sound_tables, sound_tables', limited, grouped, left, flat, nested, listed, listed', names_alike, tree, flat_tree}

seven : 7 < schema_count T.schemas
unfolding T plainly string thing eager_ref list_of_it schema_count
seven = omega arith

eight : 8 < schema_count T.schemas
unfolding T plainly string thing eager_ref list_of_it schema_count
eight = omega arith

-- the theorem speaks of these
alike : SameSchema (grown T (left (compiling T room 7))) 15 (grown T (left (compiling T room 8))) 17
alike =
    bases_may_be_grouped T sound_tables room limited 7 8 6 seven eight grouped 15 17 (left (compiling T room 7)) (left (compiling T room 8)) flat nested

-- the nested one's tree, from the flat one's
nested_tree : opened (grown T (left (compiling T room 8))) 17 ≡ tree
nested_tree = sym alike.fields ∙ flat_tree

-- in context: an array of an eager ref, where the registry names the flat object or the nested one
listed_alike : SameSchema (grown T (left (compiling T room 10))) 16 (grown T' (left (compiling T' room 10))) 18
unfolding T'
listed_alike =
    let z = checked T sound_tables in
    bases_may_be_grouped_anywhere T (words_of T) (1 ∷ 8 ∷ []) sound_tables sound_tables' (record { items = λ n k e i. refl; entries = λ n k e i. refl }) room room limited limited
    (For (words_of T) z 7 8) (regrouped (words_of T) z 7 8 6 grouped seven eight (find_in T) (find_in T') (names_alike instead)) 10 10 (itself ten) 16 18 (left (compiling T room 10)) (left (compiling T' room 10)) listed listed'
  where
    ten : 10 < schema_count T.schemas
    ten = unfold T plainly string thing eager_ref list_of_it schema_count in omega arith
