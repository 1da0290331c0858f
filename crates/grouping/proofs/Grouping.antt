-- Document 01, demand 3: "In a list of bases, any run of one or more neighbours may be replaced by one empty object that names the run as
-- its bases. Where both compile, the results have the same fields, nested joins opened; and where neither check meets the depth limit
-- every value gets the same answer."
--     bases_may_be_grouped            for the object whose list it is
--     bases_may_be_grouped_anywhere   for a schema that holds such objects anywhere, also behind the registry
-- Assumes nothing.
use Prim.Native.Nat.{ℕ, ◌<◌}
use mathlib.Core.Path.{◌≡◌, refl, sym, ap, ap₂, subst, ◌∙◌}
use mathlib.Core.List.{List}
use mathlib.Core.Option.{Option}
use Rattle.text.specs.Text.{text_of, same_bytes, same_text}
use Rattle.text.proofs.Bytes.{same_text_bytes, same_text_sound, same_text_number, same_text_sym}
use Rattle.error.specs.declared.Mode.{Mode}
use Rattle.error.specs.Paths.{levels}
use Rattle.layout.specs.Layout.{Tables, schema_count}
use Rattle.lookup.specs.Lookup.{answer_of_pattern, find_in}
use Rattle.tables.specs.Found.{Sound}
use Rattle.tables.specs.Check.{tables_fault}
use Rattle.schema.specs.Look.{Words, words_of, look}
use Rattle.validator.specs.Outcome.{Outcome}
use Rattle.validator.specs.Visit.{Nodes, visit_at}
use Rattle.validator.specs.Nodes.{nodes_of}
use Rattle.validator.specs.Validate.{visit_of}
use Rattle.compilation.specs.Compile.{ok, Room}
use Rattle.grouping.specs.Tree.{whole}
use Rattle.grouping.specs.Grown.{Tree, trees}
use Rattle.grouping.specs.Same.{answered_by}
use Rattle.grouping.specs.Values.{SameValues, with_schemas, grown}
use Rattle.grouping.specs.Regrouped.{Grouped, Regrouped}
use Rattle.grouping.specs.Demand.{opened, Limited, compiling, SameSchema}
use Rattle.grouping.proofs.Merging.{Keys}
use Rattle.grouping.proofs.Growing.{Extends, limit, limit_notes}
use Rattle.grouping.proofs.Opened.{self}
use Rattle.grouping.proofs.Quietly.{quiet-nodes}
use Rattle.grouping.proofs.SameNodes.{same_values}
use Rattle.grouping.proofs.WellFormed.{checked, names_known, values_kept}
use Rattle.grouping.proofs.Anywhere.{Alike, tree_in, grows, grows', demand_three_anywhere}
use Rattle.grouping.proofs.Instance.{For, instead, find_self, regrouped}

-- texts of equal bytes are one key
pub text_keys : (pool texts : List ℕ) → Keys (same_text pool texts)
text_keys pool texts = record {
  self = λ a. same_text_number pool texts a a refl;
  turn = λ a b. same_text_sym pool texts a b;
  swap = λ a b c h.
      same_text_bytes pool texts a c ∙
      (ap (λ (x : List ℕ). same_bytes x (text_of pool texts c)) (same_text_sound pool texts a b h) ∙ sym (same_text_bytes pool texts b c));
}

values_more : {nodes a b c : List ℕ} → SameValues nodes a b → SameValues nodes b c → SameValues nodes a c
values_more p q = record { items = λ n k e i. p.items n k e i ∙ q.items n k e i; entries = λ n k e i. p.entries n k e i ∙ q.entries n k e i }

-- what a compile leaves holds the same values
values_grown : (T : Tables) → tables_fault T ≡ Sound → {U : Words} → Extends (words_of T) U → SameValues T.nodes T.links U.links
values_grown T sound_tables {U} e = subst (SameValues T.nodes T.links) (sym e.links_are) (values_kept T sound_tables e.links)

abbrev values : Tables → Mode → Nodes
values T mode = nodes_of T mode (answer_of_pattern T.pool T.texts T.patterns)

-- a visit in other tables that hold the same values
visit_in : (T : Tables) (U : Words) (registry : List ℕ) → SameValues T.nodes T.links U.links → (find : ℕ → Option ℕ) → find ≡ find_in (with_schemas T U registry) → (mode : Mode) (k node s : ℕ) →
    visit_at (values T mode) self (look U) find k node s ≡ visit_of (with_schemas T U registry) mode k node s
unfolding visit_of
visit_in T U registry L find e mode k node s =
    ap (λ (f : ℕ → Option ℕ). visit_at (values T mode) self (look U) f k node s) e ∙
    same_values T U registry L mode (answer_of_pattern T.pool T.texts T.patterns) U (find_in (with_schemas T U registry)) k node s

find_same : (T : Tables) (t U : Words) (registry : List ℕ) → find_in (with_schemas T t registry) ≡ find_in (with_schemas T U registry)
unfolding find_in
find_same T t U registry = refl

tree_is : (T : Tables) (U : Words) (registry : List ℕ) → tree_in trees U ≡ opened (with_schemas T U registry)
unfolding opened
tree_is T U registry = refl

-- what was proved of trees and nodes, said of tables
said : (T : Tables) (U U' : Words) (registry registry' : List ℕ) (find find' : ℕ → Option ℕ) → find ≡ find_in (with_schemas T U registry) → find' ≡ find_in (with_schemas T U' registry') →
    SameValues T.nodes T.links U.links → SameValues T.nodes T.links U'.links → (r r' : ℕ) → Alike trees find find' r r' U U' →
    SameSchema (with_schemas T U registry) r (with_schemas T U' registry') r'
said T U U' registry registry' find find' e e' L L' r r' a = record {
  fields = unfold opened in ap (whole trees) a.fields;
  answers = λ mode node deep deep'.
      let v = visit_in T U registry L find e mode levels node r in
      let v' = visit_in T U' registry' L' find' e' mode levels node r' in
      sym (ap₂ (λ (f : ℕ → Tree) (o : Outcome). answered_by f o) (tree_is T U registry) v) ∙
      (a.answers (values T mode) (quiet-nodes T mode (answer_of_pattern T.pool T.texts T.patterns)) levels levels node (λ d. deep (sym v ∙ d)) (λ d. deep' (sym v' ∙ d)) ∙
      ap₂ (λ (f : ℕ → Tree) (o : Outcome). answered_by f o) (tree_is T U' registry') v');
}

-- s of T and s' of the other tables, which hold the same values, are the same but for runs in lists of bases that have empty objects over
-- them, in s or in what it reaches
pub bases_may_be_grouped_anywhere :
    (T : Tables) (t : Words) (registry : List ℕ) →
    tables_fault T ≡ Sound → tables_fault (with_schemas T t registry) ≡ Sound → SameValues T.nodes T.links t.links →
    (R R' : Room) → Limited R → Limited R' →
    (Q : ℕ → ℕ → Type 0) → Regrouped (words_of T) t Q (find_in T) (find_in (with_schemas T t registry)) →
    (s s' : ℕ) → Q s s' → (r r' : ℕ) (U U' : Words) → compiling T R s ≡ ok r U → compiling (with_schemas T t registry) R' s' ≡ ok r' U' →
    SameSchema (grown T U) r (grown (with_schemas T t registry) U') r'
unfolding compiling
bases_may_be_grouped_anywhere T t registry sound_tables sound_tables' L R R' l l' Q K s s' q r r' U U' h h' =
    let eq = same_text T.pool T.texts in
    let keys = text_keys T.pool T.texts in
    let z = checked T sound_tables in
    let z' = checked (with_schemas T t registry) sound_tables' in
    let e = grows trees eq keys R R' (limit l.schemas) (limit_notes l.notes) (limit l'.schemas) (limit_notes l'.notes) (words_of T) t z z' Q (find_in T) (find_in (with_schemas T t registry)) K s s' q levels r U h in
    let e' = grows' trees eq keys R R' (limit l.schemas) (limit_notes l.notes) (limit l'.schemas) (limit_notes l'.notes) (words_of T) t z z' Q (find_in T) (find_in (with_schemas T t registry)) K s s' q levels r' U' h' in
    said T U U' T.registry registry (find_in T) (find_in (with_schemas T t registry)) (find_same T (words_of T) U T.registry) (find_same T t U' registry)
    (values_grown T sound_tables e) (values_more L (values_grown (with_schemas T t registry) sound_tables' e')) r r'
    (demand_three_anywhere trees eq keys R R' (limit l.schemas) (limit_notes l.notes) (limit l'.schemas) (limit_notes l'.notes) (words_of T) t z z' Q (find_in T) (find_in (with_schemas T t registry)) K s s' q levels levels r r' U U' h h')

-- d' is d with the empty object e over a run of its bases
pub bases_may_be_grouped :
    (T : Tables) → tables_fault T ≡ Sound → (R : Room) → Limited R →
    (d d' e : ℕ) → d < schema_count T.schemas → d' < schema_count T.schemas → Grouped (words_of T) d d' e →
    (r r' : ℕ) (U U' : Words) → compiling T R d ≡ ok r U → compiling T R d' ≡ ok r' U' →
    SameSchema (grown T U) r (grown T U') r'
bases_may_be_grouped T sound_tables R l d d' e i i' g r r' U U' h h' =
    let z = checked T sound_tables in
    bases_may_be_grouped_anywhere T (words_of T) T.registry sound_tables sound_tables (record { items = λ n k e i. refl; entries = λ n k e i. refl }) R R l l (For (words_of T) z d d')
    (regrouped (words_of T) z d d' e g i i' (find_in T) (find_in T) (λ t. find_self (words_of T) z d d' (names_known T sound_tables t))) d d' instead r r' U U' h h'
