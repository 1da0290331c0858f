-- A schema before it is compiled, as a tree: what its record says, children and bases in place. And compiling it. Assumes nothing.
use Rattle.std.specs.Prelude.{ℕ, zero, suc, Bool, false, List, [], ◌∷◌}
use Rattle.std.proofs.Math.Option.{Option, some, none}
use Rattle.schema.specs.Shape.{Note, Pair, Own, Names, nameless, detects, named, Object, Shape, plain, any_of, all_of, array, object, ref}
use Rattle.schema.specs.Look.{Words, look, bases}
use Rattle.grouping.specs.Tree.{View, map_list, map_option, map_pair, whole, view_body}
use Rattle.grouping.specs.Grown.{Facts, Tree, trees}
use Rattle.grouping.specs.Meant.{self_view, meant_of}

mutual
  pub data Source : Type 0 where
    s_plain : Own → Source
    s_any : Option Note → Sources → Source
    s_all : Option Note → Sources → Source
    s_array : Own → Item → Source
    s_object : Facts → Fields → Fields → Joined → Named → Joined → Source
    s_ref : Option Note → ℕ → Bool → Source

  pub data Sources : Type 0 where
    no_source : Sources
    source : Source → Sources → Sources

  pub data Item : Type 0 where
    no_item : Item
    item : Source → Item

  pub data Fields : Type 0 where
    no_field : Fields
    a_field : ℕ → Source → Fields → Fields

  pub data Joined : Type 0 where
    not_joined : Joined
    joined : Sources → Joined

  pub data Named : Type 0 where
    not_named : Named
    is_detected : Source → Named
    is_named : Sources → Named

-- ---- what a source says, as a shape over sources, and the bases of an object
unfoldable pub listed : Sources → List Source
listed no_source = []
listed (source x xs) = x ∷ listed xs

unfoldable pub paired : Fields → List (Pair Source)
paired no_field = []
paired (a_field k x xs) = record { key = k; value = x } ∷ paired xs

unfoldable pub item_in : Item → Option Source
item_in no_item = none
item_in (item x) = some x

unfoldable pub joined_in : Joined → Option (List Source)
joined_in not_joined = none
joined_in (joined xs) = some (listed xs)

unfoldable pub named_in : Named → Names Source
named_in not_named = nameless
named_in (is_detected x) = detects x
named_in (is_named xs) = named (listed xs)

unfoldable pub see : Source → Shape Source
see (s_plain w) = plain w
see (s_any note xs) = any_of note (listed xs)
see (s_all note xs) = all_of note (listed xs)
see (s_array w x) = array w (item_in x)
see (s_object f p q a n b) =
    object (record {
      note = f.note;
      props = paired p;
      patterns = paired q;
      additional = joined_in a;
      required = f.required;
      least = f.least;
      most = f.most;
      closed = f.closed;
      names = named_in n;
      naming = f.naming;
    })
see (s_ref note t b) = ref note t b

unfoldable pub based : Source → Option (List Source)
based (s_plain w) = none
based (s_any _ xs) = none
based (s_all _ xs) = none
based (s_array w x) = none
based (s_object f p q a n b) = joined_in b
based (s_ref _ t b) = none

-- ---- the tree that a source stands for as it stands: its bases left out
unfoldable mutual
  pub stands : Source → View Tree
  stands (s_plain w) = view_body trees (self_view trees) (plain w)
  stands (s_any note xs) = view_body trees (self_view trees) (any_of note (standing xs))
  stands (s_all note xs) = view_body trees (self_view trees) (all_of note (standing xs))
  stands (s_array w x) = view_body trees (self_view trees) (array w (stands_item x))
  stands (s_object f p q a n b) =
      view_body trees (self_view trees) (object (record {
        note = f.note;
        props = stands_fields p;
        patterns = stands_fields q;
        additional = stands_joined a;
        required = f.required;
        least = f.least;
        most = f.most;
        closed = f.closed;
        names = stands_named n;
        naming = f.naming;
      }))
  stands (s_ref note t b) = view_body trees (self_view trees) (ref note t b)

  pub standing : Sources → List (View Tree)
  standing no_source = []
  standing (source x xs) = stands x ∷ standing xs

  pub stands_fields : Fields → List (Pair (View Tree))
  stands_fields no_field = []
  stands_fields (a_field k x xs) = record { key = k; value = stands x } ∷ stands_fields xs

  pub stands_item : Item → Option (View Tree)
  stands_item no_item = none
  stands_item (item x) = some (stands x)

  pub stands_joined : Joined → Option (List (View Tree))
  stands_joined not_joined = none
  stands_joined (joined xs) = some (standing xs)

  pub stands_named : Named → Names (View Tree)
  stands_named not_named = nameless
  stands_named (is_detected x) = detects (stands x)
  stands_named (is_named xs) = named (standing xs)

-- ---- a source from a shape over sources
unfoldable pub sources : List Source → Sources
sources [] = no_source
sources (x ∷ xs) = source x (sources xs)

unfoldable pub fields : List (Pair Source) → Fields
fields [] = no_field
fields (x ∷ xs) = a_field x.key x.value (fields xs)

unfoldable pub to_item : Option Source → Item
to_item none = no_item
to_item (some x) = item x

unfoldable pub to_joined : Option (List Source) → Joined
to_joined none = not_joined
to_joined (some xs) = joined (sources xs)

unfoldable pub to_named : Names Source → Named
to_named nameless = not_named
to_named (detects x) = is_detected x
to_named (named xs) = is_named (sources xs)

unfoldable pub sow : Shape Source → Option (List Source) → Source
sow (plain w) b = s_plain w
sow (any_of note xs) b = s_any note (sources xs)
sow (all_of note xs) b = s_all note (sources xs)
sow (array w x) b = s_array w (to_item x)
sow (object o) b =
    s_object (record { note = o.note; required = o.required; least = o.least; most = o.most; closed = o.closed; naming = o.naming }) (fields o.props) (fields o.patterns) (to_joined o.additional) (to_named o.names) (to_joined b)
sow (ref note t b) c = s_ref note t b

-- ---- the source of a record of a table
abbrev pub map_named : {A B : Type 0} → (A → B) → Names A → Names B
map_named f nameless = nameless
map_named f (detects x) = detects (f x)
map_named f (named xs) = named (map_list f xs)

abbrev pub map_whole : {A B : Type 0} → (A → B) → Object A → Object B
map_whole f o =
    record {
      note = o.note;
      props = map_list (map_pair f) o.props;
      patterns = map_list (map_pair f) o.patterns;
      additional = map_option (map_list f) o.additional;
      required = o.required;
      least = o.least;
      most = o.most;
      closed = o.closed;
      names = map_named f o.names;
      naming = o.naming;
    }

unfoldable pub map_shape : {A B : Type 0} → (A → B) → Shape A → Shape B
map_shape f (plain w) = plain w
map_shape f (any_of note xs) = any_of note (map_list f xs)
map_shape f (all_of note xs) = all_of note (map_list f xs)
map_shape f (array w x) = array w (map_option f x)
map_shape f (object o) = object (map_whole f o)
map_shape f (ref note t b) = ref note t b

unfoldable pub source_at : Words → ℕ → ℕ → Source
source_at t zero s = s_ref none 0 false
source_at t (suc f) s = sow (map_shape (source_at t f) (look t s)) (map_option (map_list (source_at t f)) (bases t s))

-- records stand after their children and bases, so a record's number bounds its depth
unfoldable pub source_of : Words → ℕ → Source
source_of t s = source_at t (suc s) s

-- ---- compiling a source: the tree of what it compiles to, or none
unfoldable pub compile_tree : (ℕ → ℕ → Bool) → (ℕ → Option Source) → ℕ → Source → Option Tree
compile_tree eq find k x = map_option (whole trees) (meant_of trees eq find stands see based k x)
