-- A compile keeps the check: where the used tables pass it, so do the used tables that the compile leaves. Assumes nothing.
use Prim.Native.Nat.{ℕ, zero, suc, ◌<◌, ◌≤◌}
use mathlib.Core.Path.{◌≡◌, refl, sym, subst, ◌∙◌}
use mathlib.Core.Bool.{Bool, true, false}
use mathlib.Core.List.{List, [], ◌∷◌}
use mathlib.Core.Logic.{◌⊎◌, inl, inr}
use mathlib.Core.Option.{Option, some, none}
use native.Mathlib.Omega.{arith}
use lib.Dec.{eqb}
use borrow.Author.Tests.{eqb-false}
use Rattle.text.specs.Choice.{pick}
use Rattle.text.specs.Text.{text_count, same_text}
use Rattle.error.specs.declared.Used.{Used}
use Rattle.error.specs.Paths.{levels}
use Rattle.layout.specs.Layout.{Tables, NONE, schema_count, schema_word, schema_kind, schema_note, array_items, additional_properties, property_names}
use Rattle.lookup.specs.Lookup.{find_in}
use Rattle.tables.specs.Found.{Sound}
use Rattle.tables.specs.Check.{tables_fault}
use Rattle.tables.proofs.Facts.{Optional, present as below-limit, SchemaFacts, schema-facts}
use Rattle.schema.specs.Shape.{Pair, Object, Shape, plain, any_of, all_of, array, object, ref}
use Rattle.schema.specs.Look.{Words, words_of, look, bases}
use Rattle.merge.specs.Merge.{Gathered, start, gather, note_of, derive}
use Rattle.compilation.specs.Compile.{Result, ok, then, Room, objects_of, looks, add_list, add_array, add_object, each, each_pair, optionally, merge_from, eagerly, compile_shape, compile_at}
use Rattle.compilation.specs.Entry.{used_tables, room_of, compile_of}
use Rattle.grouping.specs.Tree.{Every, nil, one, EveryPair, nil_pair, one_pair, Perhaps, absent, present, PerhapsEvery, presents}
use Rattle.grouping.specs.Values.{grown}
use Rattle.grouping.specs.Record.{count}
use Rattle.grouping.specs.Demand.{compiling}
use Rattle.grouping.proofs.Natural.{join_in}
use Rattle.grouping.proofs.Shapes.{append_in, every_less, pairs_less}
use Rattle.grouping.proofs.Growing.{then_elim, ok_same}
use Rattle.grouping.proofs.WellFormed.{list_every, names_known}
use Rattle.keeping.specs.Left.{Compiles, left_by}
use Rattle.keeping.proofs.Rules.{optional_more}
use Rattle.keeping.proofs.Growth.{Longer, longer_itself, longer_more, longer_count, Good, formed, steady, word_kept}
use Rattle.keeping.proofs.Lots.{Lot, lot_more, lot_put, Rekeyed, none_rekeyed, one_rekeyed, lot_again}
use Rattle.keeping.proofs.Adds.{Kept, kept-after, list_added, array_added, object_added, merged_added}
use Rattle.keeping.proofs.Fine.{Seen, s_plain, s_any, s_all, s_array, s_object, s_ref, seen, Fine, fine_more, object_fine, AllFine, all_fine, Collected, start_collected, gather_collected}
use Rattle.keeping.proofs.Called.{done, sound_tables, within, left_is, place_is, compiling_is, limited, limited-links}

module _ (T : Tables) (R : Room) (find : ℕ → Option ℕ) (notes-room : R.notes ≤ 1024) (schemas-room : R.schemas ≤ 4096) (links-room : R.links ≤ 16384)
    (least : ℕ) (known : (name : ℕ) → Perhaps (λ x. x < least) (find name)) where
  abbrev eq : ℕ → ℕ → Bool
  eq = same_text T.pool T.texts

  -- a compile of one schema keeps the check; `least` schemas were there from the start
  abbrev Keeps : (ℕ → Words → Result ℕ) → Type 0
  Keeps go = (s : ℕ) (t : Words) (r : ℕ) (t' : Words) → Good T t → least ≤ count t → s < count t → go s t ≡ ok r t' → Kept T t t' r

  record KeptAll (t t' : Words) (ys : List ℕ) : Type 0 where
    longer : Longer t t'
    good : Good T t'
    news : Every (λ x. x < count t') ys

  record KeptPairs (xs : List (Pair ℕ)) (t t' : Words) (ys : List (Pair ℕ)) : Type 0 where
    longer : Longer t t'
    good : Good T t'
    keys : Rekeyed xs ys
    news : EveryPair (λ x. x < count t') ys

  record KeptWord (t t' : Words) (y : ℕ) : Type 0 where
    longer : Longer t t'
    good : Good T t'
    new : Optional y (count t')

  module _ (go : ℕ → Words → Result ℕ) (keeps : Keeps go) where
    each-kept : (xs : List ℕ) (t : Words) (ys : List ℕ) (t' : Words) → Good T t → least ≤ count t → Every (λ x. x < count t) xs → each R eq find go xs t ≡ ok ys t' → KeptAll t t' ys
    unfolding each
    each-kept [] t ys t' g l q h = ok_same (λ ys t'. KeptAll t t' ys) [] ys t t' h (record { longer = longer_itself t; good = g; news = nil })
    each-kept (x ∷ xs) t ys t' g l (one p ps) h =
        then_elim (go x t) _ ys t' (λ y u a h.
        let k : Kept T t u y = keeps x t y u g l p a in
        then_elim (each R eq find go xs u) _ ys t' (λ zs w b h.
        let m : KeptAll u w zs = each-kept xs u zs w k.good (omega (arith, longer_count k.longer)) (every_less (longer_count k.longer) ps) b in
        ok_same (λ ys t'. KeptAll t t' ys) (y ∷ zs) ys w t' h
        (record { longer = longer_more k.longer m.longer; good = m.good; news = one {x = y} (omega (arith, k.new, longer_count m.longer)) m.news })) h) h

    pairs-kept : (xs : List (Pair ℕ)) (t : Words) (ys : List (Pair ℕ)) (t' : Words) → Good T t → least ≤ count t → EveryPair (λ x. x < count t) xs → each_pair R eq find go xs t ≡ ok ys t' → KeptPairs xs t t' ys
    unfolding each_pair
    pairs-kept [] t ys t' g l q h = ok_same (λ ys t'. KeptPairs [] t t' ys) [] ys t t' h (record { longer = longer_itself t; good = g; keys = none_rekeyed; news = nil_pair })
    pairs-kept (x ∷ xs) t ys t' g l (one_pair p ps) h =
        then_elim (go x.value t) _ ys t' (λ y u a h.
        let k : Kept T t u y = keeps x.value t y u g l p a in
        then_elim (each_pair R eq find go xs u) _ ys t' (λ zs w b h.
        let m : KeptPairs xs u w zs = pairs-kept xs u zs w k.good (omega (arith, longer_count k.longer)) (pairs_less (longer_count k.longer) ps) b in
        let i : y < count w = omega (arith, k.new, longer_count m.longer) in
        ok_same (λ ys t'. KeptPairs (x ∷ xs) t t' ys) (record { key = x.key; value = y } ∷ zs) ys w t' h
        (record { longer = longer_more k.longer m.longer; good = m.good; keys = one_rekeyed refl m.keys; news = one_pair i m.news })) h) h

    word_done : (x : ℕ) (t : Words) (y : ℕ) (t' : Words) → Good T t → least ≤ count t → Optional x (count t) → optionally R eq find go x t ≡ ok y t' → KeptWord t t' y
    unfolding optionally
    word_done x t y t' g l q = at (eqb x NONE) refl
      where
        at : (b : Bool) → eqb x NONE ≡ b → pick b (ok NONE t) (go x t) ≡ ok y t' → KeptWord t t' y
        at true e h = ok_same (λ y t'. KeptWord t t' y) NONE y t t' h (record { longer = longer_itself t; good = g; new = inl refl })
        at false e h =
            let k : Kept T t t' y = keeps x t y t' g l (below-limit q (λ z. eqb-false x NONE e z)) h in
            record { longer = k.longer; good = k.good; new = inr k.new }

    module _ (s : ℕ) (t : Words) (g : Good T t) (l : least ≤ count t) (i : s < count t) where
      facts : SchemaFacts (grown T t) s
      facts = schema-facts (grown T t) (formed T g) s i

      -- the same of later words
      facts_at : {u : Words} → Good T u → Longer t u → SchemaFacts (grown T u) s
      facts_at {u} h e = schema-facts (grown T u) (formed T h) s (omega (arith, longer_count e))

      list_case : (kind : ℕ) → (kind ≡ 7) ⊎ (kind ≡ 8) → (xs : List ℕ) → Every (λ x. x < s) xs → (r : ℕ) (t' : Words) →
          then (each R eq find go xs t) (λ ys t. add_list R eq find kind (schema_note t.schemas s) ys t) ≡ ok r t' → Kept T t t' r
      list_case kind k xs q r t' h =
          then_elim (each R eq find go xs t) _ r t' (λ ys u a h.
          let m : KeptAll t u ys = each-kept xs t ys u g l (every_less (omega arith) q) a in
          kept-after T m.longer
          (list_added T R eq find notes-room schemas-room links-room kind (schema_note u.schemas s) ys u r t' m.good k (facts_at m.good m.longer).note m.news h)) h

      array_case : schema_kind t.schemas s ≡ 9 → (r : ℕ) (t' : Words) →
          then (optionally R eq find go (array_items t.schemas s) t) (λ y t. add_array R eq find s y t) ≡ ok r t' → Kept T t t' r
      array_case e r t' h =
          then_elim (optionally R eq find go (array_items t.schemas s) t) _ r t' (λ y u a h.
          let m : KeptWord t u y = word_done (array_items t.schemas s) t y u g l (optional_more (omega arith) (facts.items e)) a in
          kept-after T m.longer
          (array_added T R eq find notes-room schemas-room links-room s y u r t' m.good (omega (arith, longer_count m.longer)) (word_kept T g m.longer s 0 i (omega arith) ∙ e) m.new h)) h

      abbrev LotIn : Words → List (Pair ℕ) → Type 0
      LotIn u ps = Lot T.pool T.texts (text_count T.texts) (count u) ps

      lot_later : {u w : Words} {ps : List (Pair ℕ)} → Longer u w → LotIn u ps → LotIn w ps
      lot_later e h = lot_more T.pool T.texts (longer_count e) h

      -- additional or names of this record, read later
      word_later : (k : ℕ) → k < 16 → {u : Words} → Longer t u → Optional (schema_word t.schemas s k) s → Optional (schema_word u.schemas s k) (count u)
      word_later k m {u} e h = subst (λ (x : ℕ). Optional x (count u)) (sym (word_kept T g e s k i m)) (optional_more (omega (arith, longer_count e)) h)

      object_case : schema_kind t.schemas s ≡ 10 → (o : Object ℕ) → Fine T s o → (r : ℕ) (t' : Words) →
          then (each_pair R eq find go o.props t) (λ ps t.
          then (each_pair R eq find go o.patterns t) (λ qs t.
          then (optionally R eq find go (additional_properties t.schemas s) t) (λ a t.
          then (optionally R eq find go (property_names t.schemas s) t) (λ n t.
          add_object R eq find s ps qs a n t)))) ≡ ok r t' → Kept T t t' r
      object_case e o f r t' h =
          then_elim (each_pair R eq find go o.props t) _ r t' (λ ps u₁ a₁ h.
          then_elim (each_pair R eq find go o.patterns u₁) _ r t' (λ qs u₂ a₂ h.
          then_elim (optionally R eq find go (additional_properties u₂.schemas s) u₂) _ r t' (λ a u₃ a₃ h.
          then_elim (optionally R eq find go (property_names u₃.schemas s) u₃) _ r t' (λ n u₄ a₄ h.
          let m₁ : KeptPairs o.props t u₁ ps = pairs-kept o.props t ps u₁ g l (pairs_less (omega arith) f.props.values) a₁ in
          let l₁ : least ≤ count u₁ = omega (arith, longer_count m₁.longer) in
          let m₂ : KeptPairs o.patterns u₁ u₂ qs = pairs-kept o.patterns u₁ qs u₂ m₁.good l₁ (pairs_less (omega (arith, longer_count m₁.longer)) f.patterns.values) a₂ in
          let e₂ : Longer t u₂ = longer_more m₁.longer m₂.longer in
          let m₃ : KeptWord u₂ u₃ a = word_done (additional_properties u₂.schemas s) u₂ a u₃ m₂.good (omega (arith, longer_count e₂)) (word_later 6 (omega arith) e₂ (facts.object e).additional) a₃ in
          let e₃ : Longer t u₃ = longer_more e₂ m₃.longer in
          let m₄ : KeptWord u₃ u₄ n = word_done (property_names u₃.schemas s) u₃ n u₄ m₃.good (omega (arith, longer_count e₃)) (word_later 12 (omega arith) e₃ (facts.object e).names) a₄ in
          let e₄ : Longer t u₄ = longer_more e₃ m₄.longer in
          let f₂ : Longer u₂ u₄ = longer_more m₃.longer m₄.longer in
          let f₁ : Longer u₁ u₄ = longer_more m₂.longer f₂ in
          kept-after T e₄
          (object_added T R eq find notes-room schemas-room links-room s ps qs a n u₄ r t' m₄.good (omega (arith, longer_count e₄)) (word_kept T g e₄ s 0 i (omega arith) ∙ e)
          (lot_later f₁ (lot_again T.pool T.texts m₁.keys f.props m₁.news)) (lot_later f₂ (lot_again T.pool T.texts m₂.keys f.patterns m₂.news))
          (optional_more (longer_count m₄.longer) m₃.new) m₄.new h)) h) h) h) h

      -- the bases as objects, merged
      merge_case : (u : Words) → Good T u → (o : Object ℕ) → Fine T (count u) o → (x : Option (List (Object ℕ))) → ((os : List (Object ℕ)) → x ≡ some os → AllFine T (count u) os) → (r : ℕ) (t' : Words) →
          merge_from R eq find x o u ≡ ok r t' → Kept T u t' r
      merge_case u b o f none k r t' h = absurd (let q : ◌≡◌ {A = ℕ} 0 1 = cc in omega arith)
      merge_case u b o f (some []) k r t' h = absurd (let q : ◌≡◌ {A = ℕ} 0 1 = cc in omega arith)
      merge_case u b o f (some (p ∷ ps)) k r t' h =
          let x : Gathered ℕ = gather eq start (p ∷ ps) in
          let c : Collected T (count u) x = gather_collected T start (p ∷ ps) (start_collected T (count u)) (k (p ∷ ps) refl) in
          merged_added T R eq find notes-room schemas-room links-room (note_of x.note o.note) x.names (derive eq x o) u r t' b c.note
          (lot_put T.pool T.texts c.props f.props) (lot_put T.pool T.texts c.patterns f.patterns) (append_in c.required f.required) (join_in c.additional f.additional) c.names h

      bases_case : (o : Object ℕ) → Fine T s o → (bs : List ℕ) → Every (λ x. x < s) bs → (r : ℕ) (t' : Words) →
          then (each R eq find go bs t) (λ rs t. merge_from R eq find (objects_of (looks t rs)) o t) ≡ ok r t' → Kept T t t' r
      bases_case o f bs q r t' h =
          then_elim (each R eq find go bs t) _ r t' (λ rs u a h.
          let m : KeptAll t u rs = each-kept bs t rs u g l (every_less (omega arith) q) a in
          kept-after T m.longer
          (merge_case u m.good o (fine_more T (omega (arith, longer_count m.longer)) f) (objects_of (looks u rs)) (λ os e. all_fine T m.good m.news os e) r t' h)) h

      itself : (r : ℕ) (t' : Words) → ok s t ≡ ok r t' → Kept T t t' r
      itself r t' h = ok_same (λ r t'. Kept T t t' r) s r t t' h (record { longer = longer_itself t; good = g; new = i })

      eager_case : (x : Option ℕ) → Perhaps (λ x. x < least) x → (r : ℕ) (t' : Words) → eagerly R eq find go x t ≡ ok r t' → Kept T t t' r
      eager_case none absent r t' h = absurd (let q : ◌≡◌ {A = ℕ} 0 1 = cc in omega arith)
      eager_case (some x) (present p) r t' h = keeps x t r t' g l (omega arith) h

      cases : (sh : Shape ℕ) → Seen t s sh → (b : Option (List ℕ)) → PerhapsEvery (λ x. x < s) b → (r : ℕ) (t' : Words) → compile_shape R eq find go s t sh b ≡ ok r t' → Kept T t t' r
      unfolding compile_shape
      cases (plain w) s_plain b q r t' h = itself r t' h
      cases (any_of note xs) (s_any e) b q r t' h = list_case 7 (inl refl) xs (list_every t.links _ _ s (facts.any_of e).below) r t' h
      cases (all_of note xs) (s_all e) b q r t' h = list_case 8 (inr refl) xs (list_every t.links _ _ s (facts.all_of e).below) r t' h
      cases (array w x) (s_array e) b q r t' h = array_case e r t' h
      cases (object o) (s_object e) none q r t' h = object_case e o (object_fine T g s i e) r t' h
      cases (object o) (s_object e) (some bs) (presents q) r t' h = bases_case o (object_fine T g s i e) bs q r t' h
      cases (ref note name false) s_ref b q r t' h = itself r t' h
      cases (ref note name true) s_ref b q r t' h = eager_case (find name) (known name) r t' h

  pub compile_keeps : (k : ℕ) → Keeps (compile_at R eq find k)
  unfolding compile_at
  compile_keeps zero s t r t' g l i h = absurd (let q : ◌≡◌ {A = ℕ} 0 1 = cc in omega arith)
  compile_keeps (suc k) s t r t' g l i h = cases (compile_at R eq find k) (compile_keeps k) s t g l i (look t s) (seen t s) (bases t s) ((steady T g).placed.bases_below s i) r t' h

-- what a call of `compile` that answers 0 leaves passes the check, and holds the record that it answers
pub record Passes (T : Tables) (s : ℕ) : Type 0 where
  pub sound : tables_fault T ≡ Sound
  pub there : s < schema_count T.schemas

pub compile_keeps_the_check : (T : Tables) (u : Used) (s : ℕ) → Compiles T u s → Passes (left_by T (compile_of T u s)) (compile_of T u s).answer.place
unfolding compiling
compile_keeps_the_check T u s h =
    let d = done T u s h in
    let U : Tables = used_tables T u in
    let lim = limited T in
    let k : Kept U (words_of U) d.words d.place =
    compile_keeps U (room_of T) (find_in U) lim.notes lim.schemas (limited-links T) (schema_count U.schemas) (names_known U (sound_tables T u s d)) levels s (words_of U) d.place d.words
    (record { sound = sound_tables T u s d }) (omega arith) (within T u s d) (compiling_is T u s d) in
    subst (λ (X : Tables). Passes X (compile_of T u s).answer.place) (sym (left_is T u s d))
    (subst (λ (x : ℕ). Passes (grown U d.words) x) (sym (place_is T u s d)) (record { sound = k.good.sound; there = k.new }))
