-- A derived object, up to the merge.
use Prim.Native.Nat.{ℕ, suc, ◌+◌, ◌*◌, ◌≤◌, ◌<◌}
use mathlib.Core.Path.{◌≡◌, refl, sym, ap, ◌∙◌}
use mathlib.Core.Bool.{Bool, true, false}
use mathlib.Core.List.{List, [], ◌∷◌}
use native.Mathlib.Omega.{arith}
use lib.ListN.{length, get_or, take, drop}
use lib.Seq.{get_or-take}
use lib.Dec.{eqb}
use borrow.Author.Tests.{ne_eqb}
use Rattle.text.specs.Choice.{both}
use Rattle.layout.specs.Layout.{schema_word}
use Rattle.compilation.specs.State.{Source, State, refused, many, source_of, state_of}
use Rattle.compilation.specs.Table.{field, span, each_over, all_objects, merge_at, derived_at, compile_at, is_built}
use Rattle.derive.specs.Meets.{Told, Ready, Built}
use Rattle.build.specs.Meets.{ToldMany, Each}
use Rattle.error.specs.declared.Used.{Used}
use Rattle.put.specs.Chase.{is_fresh, num, next, chase_at, weave_at, top_at}
use Rattle.std.specs.Prelude.{Result, Ok, Err}
use Rattle.error.specs.declared.Failure.{Failure}
use Rattle.put.specs.declared.Lead.{Lead}
use Rattle.put.specs.declared.Lead.TheVariants.{Leaf, Node}
use Rattle.merge.proofs.Lists.{span-length, span_part}
use Rattle.put.proofs.Weave.{next_most}
use Rattle.build.proofs.Build.{leaf_sane, outs-many, outs-stop, refused-built}

-- the stack holds all the numbers, or one is a leaf
module _ (f : ℕ → Result Lead Failure) where
  top-most : (ss : List ℕ) (p : ℕ) → top_at f ss p ≤ p + length ss
  unfolding top_at
  top-most [] p = omega arith
  top-most (s ∷ ss) p = omega (arith, top-most ss (next (is_fresh (f s)) p), next_most (is_fresh (f s)) p)

  fresh_cons : (c : Result Lead Failure) (ss X : List ℕ) (p : ℕ) → (top_at f ss (p + 1) ≡ p + 1 + length ss → weave_at f ss X (p + 1) ≡ span X (p + 1) 1 (length ss)) → top_at f ss (next (is_fresh c) p) ≡ p + suc (length ss) → num c (get_or X p 0) ∷ weave_at f ss X (next (is_fresh c) p) ≡ get_or X p 0 ∷ span X (p + 1) 1 (length ss)
  unfolding num next
  fresh_cons (Ok (Leaf n)) ss X p ih e = absurd (omega (arith, top-most ss p))
  fresh_cons (Err failure) ss X p ih e = ap (λ (l : List ℕ). get_or X p 0 ∷ l) (ih (omega arith))
  fresh_cons (Ok (Node t j)) ss X p ih e = ap (λ (l : List ℕ). get_or X p 0 ∷ l) (ih (omega arith))

  pub fresh_all : (ss X : List ℕ) (p : ℕ) → top_at f ss p ≡ p + length ss → weave_at f ss X p ≡ span X p 1 (length ss)
  unfolding top_at weave_at span
  fresh_all [] X p e = refl
  fresh_all (s ∷ ss) X p e = fresh_cons (f s) ss X p (fresh_all ss X (p + 1)) e

  both_no : (a b : Bool) → b ≡ false → both a b ≡ false
  both_no true b e = e
  both_no false b e = refl

  module _ (S : List ℕ) (leaf : (s n : ℕ) → f s ≡ Ok (Leaf n) → eqb (schema_word S n 0) 10 ≡ false) where
    leaf_cons : (c : Result Lead Failure) (s : ℕ) → f s ≡ c → (ss X : List ℕ) (p : ℕ) → ((top_at f ss (p + 1) ≡ p + 1 + length ss → ⊥) → all_objects S (weave_at f ss X (p + 1)) ≡ false) → (top_at f ss (next (is_fresh c) p) ≡ p + suc (length ss) → ⊥) → both (eqb (schema_word S (num c (get_or X p 0)) 0) 10) (all_objects S (weave_at f ss X (next (is_fresh c) p))) ≡ false
    unfolding num next
    leaf_cons (Ok (Leaf n)) s g ss X p ih e = rw (leaf s n g)
    leaf_cons (Err failure) s g ss X p ih e = both_no (eqb (schema_word S (get_or X p 0) 0) 10) (all_objects S (weave_at f ss X (p + 1))) (ih (λ z. e (omega arith)))
    leaf_cons (Ok (Node t j)) s g ss X p ih e = both_no (eqb (schema_word S (get_or X p 0) 0) 10) (all_objects S (weave_at f ss X (p + 1))) (ih (λ z. e (omega arith)))

    pub leaf_some : (ss X : List ℕ) (p : ℕ) → (top_at f ss p ≡ p + length ss → ⊥) → all_objects S (weave_at f ss X p) ≡ false
    unfolding top_at weave_at all_objects
    leaf_some [] X p e = absurd (e (omega arith))
    leaf_some (s ∷ ss) X p e = leaf_cons (f s) s refl ss X p (leaf_some ss X (p + 1)) e

not_ten : (kind : ℕ) → is_built kind ≡ false → kind ≡ 10 → ⊥
not_ten kind h e = let z : ◌≡◌ {A = Bool} true false = ap is_built (sym e) ∙ h in let y : ◌≡◌ {A = ℕ} 0 1 = cc in omega arith

module _ (P T R : List ℕ) (b u : Used) (N S L X X' : List ℕ) (sp : ℕ) (C : Source) (below s first count : ℕ) (st : State) (m : ToldMany) (ea : Each C (source_of P T R b N S L) below st (span C.links first 1 count) u N S L X X' sp m) (rd : Ready b u X sp) (e14 : first ≡ field C s 14) (e15 : count ≡ field C s 15) where
  abbrev items : List ℕ
  items = span C.links first 1 count

  abbrev ns : List ℕ
  ns = weave_at (chase_at C below) items X' sp

  abbrev st₁ : State
  st₁ = state_of m.used N S L

  abbrev no_made : ℕ → Told
  no_made k = record { no = k; rec = 0; fresh = false; used = m.used }

  pub derived-stop : (m.no ≡ 0 → ⊥) → Built (derived_at C (compile_at C below) st s) C (source_of P T R b N S L) u N S L X X' sp (no_made m.no)
  unfolding derived_at
  derived-stop z = refused-built (derived_at C (compile_at C below) st s) m.no C (source_of P T R b N S L) u m.used N S L X X' sp z (rw (← e14, ← e15, sym ea.answer ∙ outs-stop m N S L ns z)) ea.ran

  many_are : m.no ≡ 0 → each_over (compile_at C below) st (span C.links (field C s 14) 1 (field C s 15)) ≡ many st₁ ns
  many_are z = rw (← e14, ← e15) (sym ea.answer ∙ outs-many m N S L ns z)

  state-schemas : st₁.schemas ≡ take (m.used.schemas * 16) S
  unfolding state_of
  state-schemas = refl

  -- a leaf is a record of the source, and no object
  leaf_kind : (t n : ℕ) → chase_at C below t ≡ Ok (Leaf n) → eqb (schema_word (take (m.used.schemas * 16) S) n 0) 10 ≡ false
  unfolding schema_word
  leaf_kind t n e =
      let h = leaf_sane C below t n e in
      let low : n < b.schemas = omega (arith, h.0, ap (λ (D : Source). D.count) ea.ran.source) in
      let q : schema_word C.schemas n 0 ≡ schema_word S n 0 = ap (λ (D : Source). schema_word D.schemas n 0) (sym ea.ran.source) ∙ get_or-take (b.schemas * 16) S (n * 16 + 0) 0 (omega arith) in
      let p : schema_word (take (m.used.schemas * 16) S) n 0 ≡ schema_word S n 0 = get_or-take (m.used.schemas * 16) S (n * 16 + 0) 0 (omega (arith, rd.schemas, ea.ran.schemas)) in
      ne_eqb (schema_word (take (m.used.schemas * 16) S) n 0) 10 (λ z. not_ten (schema_word C.schemas n 0) h.1 (q ∙ sym p ∙ z))

  bad : (k : ℕ) → (k ≡ 0 → ⊥) → derived_at C (compile_at C below) st s ≡ refused k → Built (derived_at C (compile_at C below) st s) C (source_of P T R b N S L) u N S L X X' sp (no_made k)
  bad k h e = refused-built (derived_at C (compile_at C below) st s) k C (source_of P T R b N S L) u m.used N S L X X' sp h e ea.ran

  module _ (z : m.no ≡ 0) where
    top_is : m.top ≡ top_at (chase_at C below) items sp
    top_is = ea.top z

    pub derived_leaf : (m.top ≡ sp + count → ⊥) → Built (derived_at C (compile_at C below) st s) C (source_of P T R b N S L) u N S L X X' sp (no_made 31)
    unfolding derived_at
    derived_leaf h =
        let o : all_objects st₁.schemas ns ≡ false = rw state-schemas (leaf_some (chase_at C below) (take (m.used.schemas * 16) S) leaf_kind items X' sp (λ e. h (top_is ∙ e ∙ ap (λ (k : ℕ). sp + k) (span-length C.links first 1 count)))) in
        bad 31 (λ q. omega arith) (rw (many_are z, o))

    module _ (h : m.top ≡ sp + count) where
      run_is : span X' sp 1 count ≡ take count (drop sp X')
      run_is = span_part X' sp count (omega (arith, ea.low z, ea.ran.most, ea.ran.long, rd.long))

      ns_are : ns ≡ take count (drop sp X')
      ns_are = fresh_all (chase_at C below) items X' sp (sym top_is ∙ h ∙ ap (λ (k : ℕ). sp + k) (sym (span-length C.links first 1 count))) ∙ ap (span X' sp 1) (span-length C.links first 1 count) ∙ run_is

      pub derived_other : all_objects (take (m.used.schemas * 16) S) (take count (drop sp X')) ≡ false → Built (derived_at C (compile_at C below) st s) C (source_of P T R b N S L) u N S L X X' sp (no_made 31)
      unfolding derived_at
      derived_other o = bad 31 (λ q. omega arith) (rw (many_are z, ns_are, state-schemas, o))

      module _ (o : all_objects (take (m.used.schemas * 16) S) (take count (drop sp X')) ≡ true) where
        pub derived-none : count ≡ 0 → Built (derived_at C (compile_at C below) st s) C (source_of P T R b N S L) u N S L X X' sp (no_made 30)
        unfolding derived_at
        derived-none q = bad 30 (λ x. omega arith) (rw (many_are z, ns_are, state-schemas, o, ← e15, q))

        pub derived-ready : length X' ≡ length X → Ready b m.used X' sp
        derived-ready l =
            record {
              notes = omega (arith, rd.notes, ea.ran.notes);
              schemas = omega (arith, rd.schemas, ea.ran.schemas);
              links = omega (arith, rd.links, ea.ran.links);
              most = ea.ran.most;
              top = omega (arith, rd.top, ea.ran.schemas);
              long = omega (arith, rd.long);
            }

        merge_is : (count ≡ 0 → ⊥) → derived_at C (compile_at C below) st s ≡ merge_at C st₁ s (take count (drop sp X'))
        unfolding derived_at
        merge_is q = rw (many_are z, ns_are, state-schemas, o, ← e15, ne_eqb count 0 q)

        -- whatever stack the merge saw: the one here stays
        pub derived_join_aside : (count ≡ 0 → ⊥) → (bs : List ℕ) → bs ≡ take count (drop sp X') → (C' : Source) (N' S' L' Y Y' : List ℕ) (top : ℕ) (r : Told) → Built (merge_at (source_of P T R b N S L) st₁ s bs) (source_of P T R b N S L) C' m.used N' S' L' Y Y' top r → Built (derived_at C (compile_at C below) st s) C C' u N' S' L' X X' sp r
        derived_join_aside q bs e C' N' S' L' Y Y' top r bt =
            record {
              answer = bt.answer ∙ ap (λ (D : Source). merge_at D st₁ s bs) ea.ran.source ∙ ap (merge_at C st₁ s) e ∙ sym (merge_is q);
              ran =
                  record {
                    source = bt.ran.source ∙ ea.ran.source;
                    stack = ea.ran.stack;
                    long = ea.ran.long;
                    notes = omega (arith, ea.ran.notes, bt.ran.notes);
                    schemas = omega (arith, ea.ran.schemas, bt.ran.schemas);
                    links = omega (arith, ea.ran.links, bt.ran.links);
                    most = bt.ran.most;
                  };
              fresh = bt.fresh;
              rise = λ x. omega (arith, ea.ran.schemas, bt.rise x);
            }

        -- the merge saw this stack, and left X₂
        pub derived_join : (count ≡ 0 → ⊥) → (C' : Source) (N' S' L' X₂ : List ℕ) (r : Told) → Built (merge_at (source_of P T R b N S L) st₁ s (span X' sp 1 count)) (source_of P T R b N S L) C' m.used N' S' L' X' X₂ sp r → Built (derived_at C (compile_at C below) st s) C C' u N' S' L' X X₂ sp r
        derived_join q C' N' S' L' X₂ r bt =
            let t = derived_join_aside q (span X' sp 1 count) run_is C' N' S' L' X' X₂ sp r bt in
            record {
              answer = t.answer;
              ran =
                  record {
                    source = t.ran.source;
                    stack = bt.ran.stack ∙ ea.ran.stack;
                    long = bt.ran.long ∙ ea.ran.long;
                    notes = t.ran.notes;
                    schemas = t.ran.schemas;
                    links = t.ran.links;
                    most = t.ran.most;
                  };
              fresh = t.fresh;
              rise = t.rise;
            }
