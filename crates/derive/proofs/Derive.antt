-- The merge, after the bases are compiled.
use Prim.Native.Nat.{ℕ, ◌+◌, ◌*◌, ◌/◌, ◌≤◌}
use mathlib.Core.Path.{◌≡◌, refl, sym, ap, ◌∙◌}
use mathlib.Core.Bool.{Bool, true, false}
use mathlib.Core.List.{List, ◌++◌}
use native.Mathlib.Omega.{arith}
use lib.ListN.{length, take, length-append}
use Rattle.std.specs.Prelude.{Option, Some, None}
use lib.Dec.{eqb}
use borrow.Author.Tests.{le-ltb}
use Rattle.text.specs.Choice.{pick}
use Rattle.text.specs.Text.{same_text}
use Rattle.append.specs.Append.{Grown}
use Rattle.append.proofs.Laws.{room_limit}
use Rattle.layout.specs.Layout.{NONE}
use Rattle.layout.specs.Rows.{object_row}
use Rattle.schema.specs.Shape.{Pair}
use Rattle.merge.specs.Pairs.{flat_pairs}
use Rattle.merge.proofs.Laws.{flat_length}
use Rattle.error.specs.declared.Used.{Used}
use Rattle.joins.specs.declared.Offers.{Offers}
use Rattle.joins.specs.declared.Lists.{Lists}
use Rattle.joins.specs.Joins.{offer_of, offered_of, keep_one, joined, tally_one, tally, no_offers, join_words, closed_of, pair_words, required_words, total, Linked}
use Rattle.joins.proofs.Laws.{one_n, tally_n, offered_at}
use Rattle.compilation.specs.State.{Source, State, done, and_then, source_of, state_of, add_schema, add_links, add_note}
use Rattle.compilation.specs.Table.{field, merged_note, merged_note_in, merged_pairs, required_at, offers_at, join_links_at, join_row_at, merge_at}
use Rattle.inherit.specs.Carried.{Carried}
use Rattle.derive.specs.Meets.{Told, Grows, Ran, Built, Rowed, join_row, rows_of, words_of, used_after, Fits, RowsReady}
use Rattle.inherit.specs.declared.Scalars.{Scalars}
use Rattle.derive.proofs.Build.{source_same, links-done, links_full, note-done, note_full, refused-built}
use Rattle.derive.proofs.Rows.{rows-built}

-- as many links as offers
join_length : (N S : List ℕ) (names : Bool) (bs : List ℕ) (own : ℕ) (o : Offers) → o ≡ tally_one (tally (offer_of N S names) no_offers bs) own → 2 ≤ o.n → length (join_words o.n (joined (offered_of N S names) bs) own) ≡ o.n
unfolding join_words
join_length N S names bs own o e h =
    let t = tally (offer_of N S names) no_offers bs in
    let m : o.n ≡ (tally_one t own).n = ap (λ (x : Offers). x.n) e in
    rw (le-ltb o.n 2 h) (omega (arith, m, one_n t own, tally_n (offer_of N S names) (offered_of N S names) (λ b. sym (offered_at N S names b _ refl)) no_offers bs, length-append (joined (offered_of N S names) bs) (keep_one own)))

half : (ps : List (Pair ℕ)) (n : ℕ) → length (flat_pairs ps) ≡ n → length ps ≡ n / 2
half ps n e = omega (arith, flat_length ps)

-- the records, with numbers for what the definition counts
rows_are : (note at : ℕ) (z : Lists) (x y x' y' : Offers) (k : Scalars) (C : Source) (st : State) (p r pq pqr pqra n m least most naming : ℕ) (closed : Bool) → x' ≡ x → y' ≡ y → p ≡ z.properties → r ≡ z.required → pq ≡ z.properties + z.patterns → pqr ≡ z.properties + z.patterns + z.required → pqra ≡ z.properties + z.patterns + z.required + z.additional → n ≡ z.properties / 2 → m ≡ z.patterns / 2 → least ≡ k.minimum → most ≡ k.maximum → closed ≡ k.closed → naming ≡ k.naming → and_then (join_row_at C st 8 (at + pqr) x') (λ st₃ additional. and_then (join_row_at C st₃ 7 (at + pqra) y') (λ st₄ names. add_schema C st₄ (object_row note at n (at + p) m additional (at + pq) r least most (pick closed 1 0) names naming))) ≡ rows_of note at z x y k C st
unfolding rows_of join_row
rows_are note at z x y x' y' k C st p r pq pqr pqra n m least most naming closed ex ey ep er epq epqr epqra en em el eo ec eg = rw (ex, ey, ep, er, epq, epqr, epqra, en, em, el, eo, ec, eg)

module _ (P T R : List ℕ) (b u : Used) (N S L X : List ℕ) (sp s : ℕ) (bs : List ℕ) (rd : Grows b u) where
  abbrev C₀ : Source
  C₀ = source_of P T R b N S L

  abbrev st₀ : State
  st₀ = state_of u N S L

  abbrev S₁ : List ℕ
  S₁ = take (u.schemas * 16) S

  -- the links of properties, of patterns and of required, as the code reads them
  abbrev pairs_of : ℕ → List ℕ
  pairs_of k = pair_words (same_text P T) S₁ (take (b.schemas * 16) S) u.links b.links L bs k s

  pairs_are : (k : ℕ) → pairs_of k ≡ flat_pairs (merged_pairs C₀ st₀ s bs k)
  unfolding pair_words merged_pairs state_of
  pairs_are k = refl

  abbrev required_all : List ℕ
  required_all = required_words S₁ (take (b.schemas * 16) S) u.links b.links L bs s

  required_are : required_all ≡ required_at C₀ st₀ s bs
  unfolding required_words state_of
  required_are = refl

  -- the offers, and the links of their join
  abbrev Offered : Bool → ℕ → Offers → Type 0
  Offered names own o = o ≡ tally_one (tally (offer_of (take (u.notes * 9) N) S₁ names) no_offers bs) own

  abbrev join_of : List ℕ → Bool → ℕ → ℕ → List ℕ
  join_of M names n own = join_words n (joined (offered_of (take (u.notes * 9) M) S₁ names) bs) own

  offers_are : (names : Bool) (own : ℕ) (o : Offers) → Offered names own o → o ≡ offers_at st₀ names bs own
  unfolding state_of
  offers_are names own o e = e

  join_are : (names : Bool) (own : ℕ) (o : Offers) → Offered names own o → join_of N names o.n own ≡ join_links_at st₀ names bs own
  unfolding state_of
  join_are names own o e = ap (λ (x : Offers). join_of N names x.n own) e

  closed_are : (k : Scalars) → Carried (take (b.schemas * 16) S) s S₁ bs k → closed_of st₀.schemas (eqb (field C₀ s 11) 1) bs ≡ k.closed
  unfolding state_of
  closed_are k h = sym h.closed

  module _ (w : List ℕ) (e₀ : w ≡ merged_note_in (take (b.notes * 9) N) (take (b.schemas * 16) S) (take (u.notes * 9) N) S₁ s bs) (N₁ : List ℕ) where
    e : w ≡ merged_note C₀ st₀ s bs
    unfolding merged_note state_of
    e = e₀

    nine : length w ≡ 9
    unfolding merged_note_in
    nine = ap length e₀

    ran_to : (u' : Used) (L' : List ℕ) → take (u.notes * 9) N₁ ≡ take (u.notes * 9) N → length N₁ ≡ length N → take u.links L' ≡ take u.links L → length L' ≡ length L → u.notes ≤ u'.notes → u.schemas ≡ u'.schemas → u.links ≤ u'.links → Ran C₀ (source_of P T R b N₁ S L') u u' X X sp
    ran_to u' L' a c d f x y z =
        record {
          source = source_same P T R b u N N₁ S S L L' rd.notes rd.schemas rd.links a refl d c refl f;
          stack = refl;
          long = refl;
          notes = x;
          schemas = omega (arith, y);
          links = z;
          most = omega (arith, y, rd.most);
        }

    abbrev full : Told
    full = record { no = 33; rec = 0; fresh = false; used = u }

    pub merge_no_note : Grown 9216 N N₁ (u.notes * 9) w false → Built (merge_at C₀ st₀ s bs) C₀ (source_of P T R b N₁ S L) u N₁ S L X X sp full
    unfolding merge_at
    merge_no_note g =
        refused-built (merge_at C₀ st₀ s bs) 33 C₀ (source_of P T R b N₁ S L) u u N₁ S L X X sp (λ z. omega arith)
        (rw (← e, note_full C₀ u N N₁ S L w nine refl g))
        (ran_to u L g.kept g.long refl refl (omega arith) refl (omega arith))

    module _ (g : Grown 9216 N N₁ (u.notes * 9) w true) (own : ℕ) (e6 : own ≡ field C₀ s 6) (none : ℕ) (e12 : none ≡ NONE) (x y : Offers) (ex : Offered false own x) (ey₀ : Offered true none y) (L₁ : List ℕ) (o : Option Lists) (lk : Linked L L₁ u.links (pairs_of 2) (pairs_of 4) required_all (join_of N₁ false x.n own) (join_of N₁ true y.n NONE) o) where
      abbrev u₁ : Used
      u₁ = record { notes = u.notes + 1; schemas = u.schemas; links = u.links }

      noted : add_note C₀ st₀ (merged_note C₀ st₀ s bs) ≡ done (state_of u₁ N₁ S L) u.notes
      noted = rw (← e) (note-done C₀ u N N₁ S L w nine refl g)

      ey : Offered true NONE y
      ey = rw e12 at ey₀

      abbrev p : List ℕ
      p = flat_pairs (merged_pairs C₀ st₀ s bs 2)

      abbrev q : List ℕ
      q = flat_pairs (merged_pairs C₀ st₀ s bs 4)

      abbrev r : List ℕ
      r = required_at C₀ st₀ s bs

      abbrev a : List ℕ
      a = join_links_at st₀ false bs (field C₀ s 6)

      abbrev n : List ℕ
      n = join_links_at st₀ true bs NONE

      additional_are : join_of N₁ false x.n own ≡ a
      additional_are = rw g.kept (join_are false own x ex ∙ ap (join_links_at st₀ false bs) e6)

      names_are : join_of N₁ true y.n NONE ≡ n
      names_are = rw g.kept (join_are true NONE y ey)

      linked : Linked L L₁ u.links p q r a n o
      linked = rw (pairs_are 2, pairs_are 4, required_are, additional_are, names_are) at lk

      pub merge_no_links : o ≡ None → Built (merge_at C₀ st₀ s bs) C₀ (source_of P T R b N₁ S L₁) u N₁ S L₁ X X sp full
      unfolding merge_at
      merge_no_links f =
          refused-built (merge_at C₀ st₀ s bs) 33 C₀ (source_of P T R b N₁ S L₁) u u N₁ S L₁ X X sp (λ z. omega arith)
          (rw (noted, links_full C₀ u₁ N₁ S L (length (p ++ q ++ r ++ a ++ n)) (p ++ q ++ r ++ a ++ n) refl refl (linked.laid.full (ap total f))))
          (ran_to u L₁ g.kept g.long linked.laid.kept linked.laid.long (omega arith) refl (omega arith))

      module _ (z : Lists) (f : o ≡ Some z) where
        word_count : length (p ++ q ++ r ++ a ++ n) ≡ words_of z
        word_count = linked.laid.count (words_of z) (ap total f)

        small : u.links + words_of z ≤ 16384
        small = omega (arith, word_count, room_limit 16384 (length L) u.links (length (p ++ q ++ r ++ a ++ n)) (linked.laid.fits (words_of z) (ap total f)))

        pub merge-fits : Fits u z
        merge-fits =
            record {
              notes = omega (arith, nine, room_limit 9216 (length N) (u.notes * 9) (length w) (sym g.yes));
              links = small;
            }

        few_of : (names : Bool) (own : ℕ) (o : Offers) (k : ℕ) → Offered names own o → length (join_of N₁ names o.n own) ≡ k → k ≤ words_of z → 2 ≤ o.n → o.n ≤ 16384
        few_of names own o k eo l h t =
            let j : length (join_of N₁ names o.n own) ≡ o.n = rw g.kept (join_length (take (u.notes * 9) N) S₁ names bs own o eo t) in
            omega (arith, j, small)

        pub merge-rows-ready : (v : Used) → v ≡ used_after u z → RowsReady v u.links z x y
        merge-rows-ready v ev =
            record {
              most = omega (arith, ap (λ (i : Used). i.schemas) ev, rd.most);
              short = small;
              few = few_of false own x z.additional ex (lk.counted.additional z f) (omega arith);
              fewer = few_of true NONE y z.names ey (lk.counted.names z f) (omega arith);
            }

        linked_done : add_links C₀ (state_of u₁ N₁ S L) (p ++ q ++ r ++ a ++ n) ≡ done (state_of (used_after u z) N₁ S L₁) u.links
        linked_done = links-done C₀ u₁ N₁ S L L₁ (words_of z) (p ++ q ++ r ++ a ++ n) word_count refl (rw word_count at (linked.laid.fits (words_of z) (ap total f))) (linked.laid.grown (words_of z) (ap total f))

        pub merge-done : (v : Used) → v ≡ used_after u z → (k : Scalars) → Carried (take (b.schemas * 16) S) s S₁ bs k → (S₂ : List ℕ) (t : Told) → Rowed S S₂ v (rows_of u.notes u.links z x y k) t → Built (merge_at C₀ st₀ s bs) C₀ (source_of P T R b N₁ S₂ L₁) u N₁ S₂ L₁ X X sp t
        unfolding merge_at
        merge-done v ev k h S₂ t d =
            let lp : length p ≡ z.properties = linked.counted.properties z f in
            let lq : length q ≡ z.patterns = linked.counted.patterns z f in
            let lr : length r ≡ z.required = linked.counted.required z f in
            let la : length a ≡ z.additional = linked.counted.additional z f in
            let lpq : length (p ++ q) ≡ z.properties + z.patterns = omega (arith, length-append p q) in
            let lpqr : length (p ++ q ++ r) ≡ z.properties + z.patterns + z.required = omega (arith, length-append (p ++ q) r) in
            let lpqra : length (p ++ q ++ r ++ a) ≡ z.properties + z.patterns + z.required + z.additional = omega (arith, length-append (p ++ q ++ r) a) in
            rows-built P T R b u (used_after u z) N₁ S S₂ L₁ (rows_of u.notes u.links z x y k) t (rw ev at d) (merge_at C₀ st₀ s bs) C₀ X X sp rd
            (ran_to (used_after u z) L₁ g.kept g.long linked.laid.kept linked.laid.long (omega arith) refl (omega arith))
            (rw (noted, linked_done)
            (rows_are u.notes u.links z x y (offers_at st₀ false bs (field C₀ s 6)) (offers_at st₀ true bs NONE) k C₀ (state_of (used_after u z) N₁ S L₁) (length p) (length r) (length (p ++ q)) (length (p ++ q ++ r)) (length (p ++ q ++ r ++ a)) (length (merged_pairs C₀ st₀ s bs 2)) (length (merged_pairs C₀ st₀ s bs 4)) (field C₀ s 9) (field C₀ s 10) (field C₀ s 13) (closed_of st₀.schemas (eqb (field C₀ s 11) 1) bs)
            (sym (offers_are false own x ex ∙ ap (offers_at st₀ false bs) e6)) (sym (offers_are true NONE y ey)) lp lr lpq lpqr lpqra
            (half (merged_pairs C₀ st₀ s bs 2) z.properties lp) (half (merged_pairs C₀ st₀ s bs 4) z.patterns lq) (sym h.minimum) (sym h.maximum) (closed_are k h) (sym h.naming)))
