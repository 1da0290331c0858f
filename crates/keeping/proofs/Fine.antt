-- The objects that a compile merges, as tables that pass the check have them, and what merging makes of them. Assumes nothing.
use Prim.Native.Nat.{ℕ, ◌<◌, ◌≤◌}
use mathlib.Core.Path.{◌≡◌, refl, subst, ◌∙◌}
use mathlib.Core.Bool.{Bool, true, false}
use mathlib.Core.List.{List, [], ◌∷◌}
use mathlib.Core.Option.{Option, some, none}
use native.Mathlib.Omega.{arith}
use lib.Dec.{eqb, leb}
use borrow.Author.Tests.{eqb-true, eqb-false}
use Rattle.text.specs.Choice.{pick}
use Rattle.text.specs.Text.{text_count, same_text}
use Rattle.layout.specs.Layout.{Tables, NONE, note_count, schema_kind, schema_note, array_items, properties_first, properties_count, pattern_properties_first, pattern_properties_count, additional_properties, property_names, ref_text, ref_eager}
use Rattle.records.specs.Records.{note_ok}
use Rattle.tables.proofs.Facts.{Optional, present as below-limit, ObjectFacts, SchemaFacts, schema-facts}
use Rattle.schema.specs.Shape.{Note, Own, Object, Shape, plain, any_of, all_of, array, object, ref}
use Rattle.schema.specs.Look as words
use Rattle.schema.specs.Look.{Words, note_at, optional, detecting, sort_object, sort_shape, raw, look}
use Rattle.merge.specs.Merge.{Kept, kept, over, later, with_tags, Gathered, start, add, gather}
use Rattle.compilation.specs.Compile.{objects_cons, objects_of, looks}
use Rattle.grouping.specs.Tree.{Every, nil, one, PerhapsEvery, absents, NamesIn}
use Rattle.grouping.specs.Values.{grown}
use Rattle.grouping.specs.Record.{count}
use Rattle.grouping.proofs.Natural.{join_in, counting_in}
use Rattle.grouping.proofs.Shapes.{append_in, every-perhaps, every-names}
use Rattle.grouping.proofs.Frame.{sort_names_lem}
use Rattle.grouping.proofs.WellFormed.{list_every, word_every, word_names}
use Rattle.keeping.proofs.Rules.{pairs-held}
use Rattle.keeping.proofs.Growth.{Good, formed}
use Rattle.keeping.proofs.Lots.{Lot, lot_none, lot_more, lot_put, lot_read}
use Rattle.keeping.proofs.Adds.{flagged}

-- what a record reads as, with its kind
pub data Seen (t : Words) (s : ℕ) : Shape ℕ → Type 0 where
  s_plain : {w : Own} → Seen t s (plain w)
  s_any : {note : Option Note} → schema_kind t.schemas s ≡ 7 → Seen t s (any_of note (words.list_of t s))
  s_all : {note : Option Note} → schema_kind t.schemas s ≡ 8 → Seen t s (all_of note (words.list_of t s))
  s_array : {w : Own} {x : Option ℕ} → schema_kind t.schemas s ≡ 9 → Seen t s (array w x)
  s_object : schema_kind t.schemas s ≡ 10 → Seen t s (object (sort_object (λ n. detecting (raw t n)) (words.object_of t s)))
  s_ref : {note : Option Note} {name : ℕ} {b : Bool} → Seen t s (ref note name b)

pub seen : (t : Words) (s : ℕ) → Seen t s (look t s)
unfolding look raw sort_shape
seen t s =
    at (leb (schema_kind t.schemas s) 6) (eqb (schema_kind t.schemas s) 7) (eqb (schema_kind t.schemas s) 8) (eqb (schema_kind t.schemas s) 9) (eqb (schema_kind t.schemas s) 10) refl refl refl refl
  where
    kind : {b : Bool} (k : ℕ) → eqb (schema_kind t.schemas s) k ≡ b → b ≡ true → schema_kind t.schemas s ≡ k
    kind k e h = eqb-true (schema_kind t.schemas s) k (e ∙ h)

    at : (a b c d e : Bool) → eqb (schema_kind t.schemas s) 7 ≡ b → eqb (schema_kind t.schemas s) 8 ≡ c → eqb (schema_kind t.schemas s) 9 ≡ d → eqb (schema_kind t.schemas s) 10 ≡ e →
        Seen t s (sort_shape (λ n. detecting (raw t n))
        (pick a (plain (words.own_of t s))
        (pick b (any_of (words.note_of_schema t s) (words.list_of t s))
        (pick c (all_of (words.note_of_schema t s) (words.list_of t s))
        (pick d (array (words.array_of t s) (optional (array_items t.schemas s)))
        (pick e (object (words.object_of t s))
        (ref (words.note_of_schema t s) (ref_text t.schemas s) (eqb (ref_eager t.schemas s) 1))))))))
    at true b c d e p q r u = s_plain
    at false true c d e p q r u = s_any (kind 7 p refl)
    at false false true d e p q r u = s_all (kind 8 q refl)
    at false false false true e p q r u = s_array (kind 9 r refl)
    at false false false false true p q r u = s_object (kind 10 u refl)
    at false false false false false p q r u = s_ref

-- notes whose flag the check lets pass
abbrev pub Flagged : Kept → Type 0
Flagged x = flagged x.tags x.detection ≡ true

over_flagged : (x y : Kept) → Flagged x → Flagged y → Flagged (over x y)
unfolding later with_tags
over_flagged x y a b = at (eqb y.tags NONE)
  where
    at : (c : Bool) → flagged (pick c x.tags y.tags) (pick c x.detection y.detection) ≡ true
    at true = a
    at false = b

module _ (T : Tables) where
  pub record Fine (limit : ℕ) (o : Object ℕ) : Type 0 where
    pub note : Flagged (kept o.note)
    pub props : Lot T.pool T.texts (text_count T.texts) limit o.props
    pub patterns : Lot T.pool T.texts (text_count T.texts) limit o.patterns
    pub additional : PerhapsEvery (λ x. x < limit) o.additional
    pub required : Every (λ x. x < text_count T.texts) o.required
    pub names : NamesIn (λ x. x < limit) o.names

  pub fine_more : {a b : ℕ} {o : Object ℕ} → a ≤ b → Fine a o → Fine b o
  fine_more le h = record {
    note = h.note;
    props = lot_more T.pool T.texts le h.props;
    patterns = lot_more T.pool T.texts le h.patterns;
    additional = every-perhaps le h.additional;
    required = h.required;
    names = every-names le h.names;
  }

  flag_pick : (b : Bool) (x : Note) → (b ≡ false → flagged x.tags x.detection ≡ true) → Flagged (kept (pick b none (some x)))
  flag_pick true x h = refl
  flag_pick false x h = h refl

  note_fine : {t : Words} → Good T t → (n : ℕ) → Optional n (note_count t.notes) → Flagged (kept (note_at t.notes n))
  unfolding note_at note_ok
  note_fine {t} g n h = flag_pick (eqb n NONE) _ (λ e. (formed T g).notes n (below-limit h (λ q. eqb-false n NONE e q)))

  -- an object of tables that pass the check
  pub object_fine : {t : Words} → Good T t → (s : ℕ) → s < count t → schema_kind t.schemas s ≡ 10 → Fine s (sort_object (λ n. detecting (raw t n)) (words.object_of t s))
  unfolding words.object_of
  object_fine {t} g s i e =
      let f : SchemaFacts (grown T t) s = schema-facts (grown T t) (formed T g) s i in
      let o : ObjectFacts T.pool T.texts t.links t.schemas s (text_count T.texts) = f.object e in
      record {
        note = note_fine g (schema_note t.schemas s) f.note;
        props = lot_read T.pool T.texts t.links (properties_first t.schemas s) (properties_count t.schemas s) (text_count T.texts) s (pairs-held T.pool T.texts o.properties);
        patterns = lot_read T.pool T.texts t.links (pattern_properties_first t.schemas s) (pattern_properties_count t.schemas s) (text_count T.texts) s (pairs-held T.pool T.texts o.patterns);
        additional = word_every (additional_properties t.schemas s) o.additional;
        required = list_every t.links _ _ (text_count T.texts) o.required.below;
        names = sort_names_lem (λ n. detecting (raw t n)) (word_names (property_names t.schemas s) o.names);
      }

  pub data AllFine (limit : ℕ) : List (Object ℕ) → Type 0 where
    none_fine : AllFine limit []
    one_fine : {o : Object ℕ} {os : List (Object ℕ)} → Fine limit o → AllFine limit os → AllFine limit (o ∷ os)

  cons_fine : {t : Words} → Good T t → (x : ℕ) → x < count t → {sh : Shape ℕ} → Seen t x sh → (r : Option (List (Object ℕ))) (os : List (Object ℕ)) → objects_cons sh r ≡ some os →
      ((ps : List (Object ℕ)) → r ≡ some ps → AllFine (count t) ps) → AllFine (count t) os
  cons_fine g x i s_plain r os h k = absurd (let q : ◌≡◌ {A = ℕ} 0 1 = cc in omega arith)
  cons_fine g x i (s_any e) r os h k = absurd (let q : ◌≡◌ {A = ℕ} 0 1 = cc in omega arith)
  cons_fine g x i (s_all e) r os h k = absurd (let q : ◌≡◌ {A = ℕ} 0 1 = cc in omega arith)
  cons_fine g x i (s_array e) r os h k = absurd (let q : ◌≡◌ {A = ℕ} 0 1 = cc in omega arith)
  cons_fine g x i (s_object e) none os h k = absurd (let q : ◌≡◌ {A = ℕ} 0 1 = cc in omega arith)
  cons_fine {t} g x i (s_object e) (some ps) os h k =
      let o : Object ℕ = sort_object (λ n. detecting (raw t n)) (words.object_of t x) in
      let f : ◌≡◌ {A = List (Object ℕ)} (o ∷ ps) os = cc in
      subst (AllFine (count t)) f (one_fine (fine_more (omega arith) (object_fine g x i e)) (k ps refl))
  cons_fine g x i s_ref r os h k = absurd (let q : ◌≡◌ {A = ℕ} 0 1 = cc in omega arith)

  pub all_fine : {t : Words} → Good T t → {xs : List ℕ} → Every (λ x. x < count t) xs → (os : List (Object ℕ)) → objects_of (looks t xs) ≡ some os → AllFine (count t) os
  unfolding objects_of looks
  all_fine {t} g nil os h = let f : ◌≡◌ {A = List (Object ℕ)} [] os = cc in subst (AllFine (count t)) f none_fine
  all_fine {t} g (one {x = x} {xs = xs} p ps) os h = cons_fine g x p (seen t x) (objects_of (looks t xs)) os h (λ qs f. all_fine g ps qs f)

  -- gathered
  pub record Collected (limit : ℕ) (x : Gathered ℕ) : Type 0 where
    pub note : Flagged x.note
    pub props : Lot T.pool T.texts (text_count T.texts) limit x.props
    pub patterns : Lot T.pool T.texts (text_count T.texts) limit x.patterns
    pub additional : PerhapsEvery (λ x. x < limit) x.additional
    pub required : Every (λ x. x < text_count T.texts) x.required
    pub names : PerhapsEvery (λ x. x < limit) x.names

  pub start_collected : (limit : ℕ) → Collected limit start
  start_collected limit = record {
    note = refl;
    props = lot_none T.pool T.texts (text_count T.texts) limit;
    patterns = lot_none T.pool T.texts (text_count T.texts) limit;
    additional = absents;
    required = nil;
    names = absents;
  }

  add_collected : {limit : ℕ} (x : Gathered ℕ) (o : Object ℕ) → Collected limit x → Fine limit o → Collected limit (add (same_text T.pool T.texts) x o)
  add_collected x o a b = record {
    note = over_flagged x.note (kept o.note) a.note b.note;
    props = lot_put T.pool T.texts a.props b.props;
    patterns = lot_put T.pool T.texts a.patterns b.patterns;
    additional = join_in a.additional b.additional;
    required = append_in a.required b.required;
    names = join_in a.names (counting_in b.names);
  }

  pub gather_collected : {limit : ℕ} (x : Gathered ℕ) (os : List (Object ℕ)) → Collected limit x → AllFine limit os → Collected limit (gather (same_text T.pool T.texts) x os)
  unfolding gather
  gather_collected x [] a none_fine = a
  gather_collected x (o ∷ os) a (one_fine b bs) = gather_collected (add (same_text T.pool T.texts) x o) os (add_collected x o a b) bs
