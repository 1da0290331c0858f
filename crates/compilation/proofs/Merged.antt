-- A merged object: its links in one piece or list by list, its records one by one. Assumes nothing.
use Prim.Native.Nat.{ℕ, ◌+◌, ◌<◌, ◌≤◌}
use mathlib.Core.Path.{◌≡◌, refl, ◌∙◌}
use mathlib.Core.Bool.{Bool, true, false}
use mathlib.Core.List.{List, [], ◌∷◌, ◌++◌, append_assoc, append-nil}
use mathlib.Core.Logic.{⊎_elim}
use mathlib.Core.Option.{Option}
use native.Mathlib.Omega.{arith}
use lib.ListN.{length, length-append}
use lib.Dec.{leb}
use borrow.Author.Tests.{le-leb, lt-leb, le-ltb}
use Rattle.text.specs.Choice.{pick, le_or_lt}
use Rattle.layout.specs.Layout.{NONE}
use Rattle.layout.specs.Rows.{list_row, object_row}
use Rattle.schema.specs.Shape.{Note, Pair, Object}
use Rattle.schema.specs.Look.{Words}
use Rattle.merge.specs.Pairs.{flat_pairs}
use Rattle.joins.specs.declared.Offers.{Offers}
use Rattle.joins.proofs.Gathered.{listed}
use Rattle.compilation.specs.State.{Source, State, Out, and_then, add_schema, add_note, add_links}
use Rattle.compilation.specs.Table.{join_row_at}
use Rattle.compilation.specs.Compile.{Result, ok, refuse, then, Room, note_words_of, join_links, join_row, add_merged, add_note as appendNote, add_row as appendRow, add_links as appendLinks}
use Rattle.compilation.proofs.Grows.{Grown}
use Rattle.compilation.proofs.Same.{words_in, Same, made, same_then, Rooms, note_added, schema_added, links_added}
use Rattle.compilation.proofs.Joined.{last_or, laid, place}

module _ (R : Room) (eq : ℕ → ℕ → Bool) (find : ℕ → Option ℕ) where
  -- two lists of links fit one after the other exactly where both fit at once
  add-both : (x y : List ℕ) (t : Words) (h : ℕ → ℕ → Words → Result ℕ) → length t.links + length (x ++ y) ≤ R.links → then (appendLinks R eq find x t) (λ a t₁. then (appendLinks R eq find y t₁) (λ b t₂. h a b t₂)) ≡ then (appendLinks R eq find (x ++ y) t) (λ a t₁. h a (a + length x) t₁)
  unfolding appendLinks
  add-both x y t h l =
      let n = length-append x y in
      let m = length-append t.links x in
      let e1 : leb (length t.links + length x) R.links ≡ true = le-leb (length t.links + length x) R.links (omega arith) in
      let e2 : leb (length (t.links ++ x) + length y) R.links ≡ true = le-leb (length (t.links ++ x) + length y) R.links (omega arith) in
      let e3 : leb (length t.links + length (x ++ y)) R.links ≡ true = le-leb (length t.links + length (x ++ y)) R.links l in
      rw (e1, e2, e3, m, append_assoc t.links x y)

  add_over : (x y : List ℕ) (t : Words) (h : ℕ → ℕ → Words → Result ℕ) → R.links < length t.links + length (x ++ y) → then (appendLinks R eq find x t) (λ a t₁. then (appendLinks R eq find y t₁) (λ b t₂. h a b t₂)) ≡ then (appendLinks R eq find (x ++ y) t) (λ a t₁. h a (a + length x) t₁)
  unfolding appendLinks
  add_over x y t h l =
      let n = length-append x y in
      let m = length-append t.links x in
      let e3 : leb (length t.links + length (x ++ y)) R.links ≡ false = lt-leb (length t.links + length (x ++ y)) R.links l in
      ⊎_elim
      (λ k.
      let e1 : leb (length t.links + length x) R.links ≡ true = le-leb (length t.links + length x) R.links k in
      let e2 : leb (length (t.links ++ x) + length y) R.links ≡ false = lt-leb (length (t.links ++ x) + length y) R.links (omega arith) in
      rw (e1, e2, e3))
      (λ k.
      let e1 : leb (length t.links + length x) R.links ≡ false = lt-leb (length t.links + length x) R.links k in
      rw (e1, e3))
      (le_or_lt (length t.links + length x) R.links)

  pub add_two : (x y : List ℕ) (t : Words) (h : ℕ → ℕ → Words → Result ℕ) → then (appendLinks R eq find x t) (λ a t₁. then (appendLinks R eq find y t₁) (λ b t₂. h a b t₂)) ≡ then (appendLinks R eq find (x ++ y) t) (λ a t₁. h a (a + length x) t₁)
  add_two x y t h = ⊎_elim (add-both x y t h) (add_over x y t h) (le_or_lt (length t.links + length (x ++ y)) R.links)

  -- and a join after a list
  pub add_join : (x ys : List ℕ) (t : Words) (h : ℕ → ℕ → Words → Result ℕ) → then (appendLinks R eq find x t) (λ a t₁. then (join_links R eq find (listed ys) t₁) (λ b t₂. h a b t₂)) ≡ then (appendLinks R eq find (x ++ laid ys) t) (λ a t₁. h a (place ys (a + length x)) t₁)
  add_join x [] t h = rw (append-nil x)
  add_join x (y ∷ []) t h = rw (append-nil x)
  add_join x (y ∷ (z ∷ zs)) t h = add_two x (y ∷ (z ∷ zs)) t h

  -- a merged object from what it is made of
  unfoldable pub merged_from : List ℕ → List (Pair ℕ) → List (Pair ℕ) → List ℕ → Option (List ℕ) → Option (List ℕ) → ℕ → ℕ → ℕ → ℕ → Words → Result ℕ
  merged_from note ps qs required additional names least most closed naming t =
      then (appendNote R eq find note t) (λ ν t.
      then (appendLinks R eq find (flat_pairs ps) t) (λ p t.
      then (appendLinks R eq find (flat_pairs qs) t) (λ q t.
      then (appendLinks R eq find required t) (λ r t.
      then (join_links R eq find additional t) (λ a t.
      then (join_links R eq find names t) (λ n t.
      then (join_row R eq find 8 a additional t) (λ all t.
      then (join_row R eq find 7 n names t) (λ any t.
      appendRow R eq find (object_row ν p (length ps) q (length qs) all r (length required) least most closed any naming) t))))))))

  pub merged_from_lem : (note : Note) (names : Option (List ℕ)) (o : Object ℕ) (t : Words) → add_merged R eq find note names o t ≡ merged_from (note_words_of note) o.props o.patterns o.required o.additional names o.least o.most (pick o.closed 1 0) o.naming t
  unfolding add_merged merged_from
  merged_from_lem note names o t = refl

  pub merged_parts : {note note' : List ℕ} {ps ps' qs qs' : List (Pair ℕ)} {required required' : List ℕ} {all all' any any' : Option (List ℕ)} {least least' most most' closed closed' naming naming' : ℕ} → note ≡ note' → ps ≡ ps' → qs ≡ qs' → required ≡ required' → all ≡ all' → any ≡ any' → least ≡ least' → most ≡ most' → closed ≡ closed' → naming ≡ naming' → (t : Words) → merged_from note ps qs required all any least most closed naming t ≡ merged_from note' ps' qs' required' all' any' least' most' closed' naming' t
  merged_parts e1 e2 e3 e4 e5 e6 e7 e8 e9 e10 t = cc

  -- its links in one piece
  module _ (note : List ℕ) (ps qs : List (Pair ℕ)) (required xs ys : List ℕ) (least most closed naming : ℕ) where
    abbrev rows : ℕ → ℕ → ℕ → ℕ → ℕ → ℕ → Words → Result ℕ
    rows ν p q r a n t =
        then (join_row R eq find 8 a (listed xs) t) (λ all t.
        then (join_row R eq find 7 n (listed ys) t) (λ any t.
        appendRow R eq find (object_row ν p (length ps) q (length qs) all r (length required) least most closed any naming) t))

    abbrev P : List ℕ
    P = flat_pairs ps

    abbrev Q : List ℕ
    Q = flat_pairs qs

    in_one : (ν : ℕ) (t : Words) →
        then (appendLinks R eq find P t) (λ p t.
        then (appendLinks R eq find Q t) (λ q t.
        then (appendLinks R eq find required t) (λ r t.
        then (join_links R eq find (listed xs) t) (λ a t.
        then (join_links R eq find (listed ys) t) (λ n t. rows ν p q r a n t)))))
        ≡ then (appendLinks R eq find (P ++ Q ++ required ++ laid xs ++ laid ys) t)
        (λ p t. rows ν p (p + length P) (p + length (P ++ Q)) (place xs (p + length (P ++ Q ++ required))) (place ys (p + length (P ++ Q ++ required ++ laid xs))) t)
    in_one ν t =
        add_two P Q t (λ p q t.
        then (appendLinks R eq find required t) (λ r t.
        then (join_links R eq find (listed xs) t) (λ a t.
        then (join_links R eq find (listed ys) t) (λ n t. rows ν p q r a n t))))
        ∙ add_two (P ++ Q) required t (λ p r t.
        then (join_links R eq find (listed xs) t) (λ a t.
        then (join_links R eq find (listed ys) t) (λ n t. rows ν p (p + length P) r a n t)))
        ∙ add_join (P ++ Q ++ required) xs t (λ p a t.
        then (join_links R eq find (listed ys) t) (λ n t. rows ν p (p + length P) (p + length (P ++ Q)) a n t))
        ∙ add_join (P ++ Q ++ required ++ laid xs) ys t (λ p n t. rows ν p (p + length P) (p + length (P ++ Q)) (place xs (p + length (P ++ Q ++ required))) n t)

    pub merged_in_one : (t : Words) → merged_from note ps qs required (listed xs) (listed ys) least most closed naming t ≡
        then (appendNote R eq find note t) (λ ν t.
        then (appendLinks R eq find (P ++ Q ++ required ++ laid xs ++ laid ys) t) (λ p t.
        rows ν p (p + length P) (p + length (P ++ Q)) (place xs (p + length (P ++ Q ++ required))) (place ys (p + length (P ++ Q ++ required ++ laid xs))) t))
    unfolding merged_from
    merged_in_one t = under (appendNote R eq find note t)
      where
        under : (r : Result ℕ) → then r (λ ν t. then (appendLinks R eq find P t) (λ p t.
            then (appendLinks R eq find Q t) (λ q t.
            then (appendLinks R eq find required t) (λ r t.
            then (join_links R eq find (listed xs) t) (λ a t.
            then (join_links R eq find (listed ys) t) (λ n t. rows ν p q r a n t))))))
            ≡ then r (λ ν t. then (appendLinks R eq find (P ++ Q ++ required ++ laid xs ++ laid ys) t) (λ p t.
            rows ν p (p + length P) (p + length (P ++ Q)) (place xs (p + length (P ++ Q ++ required))) (place ys (p + length (P ++ Q ++ required ++ laid xs))) t))
        under (ok ν t₁) = in_one ν t₁
        under (refuse k) = refl

-- the whole object, over the tables
unfoldable pub merged_at : Source → State → List ℕ → List (Pair ℕ) → List (Pair ℕ) → List ℕ → List ℕ → List ℕ → Offers → Offers → ℕ → ℕ → ℕ → ℕ → Out
merged_at C st note ps qs required A N all-offers any-offers least most closed naming =
    and_then (add_note C st note) (λ st₁ ν.
    and_then (add_links C st₁ (flat_pairs ps ++ flat_pairs qs ++ required ++ A ++ N)) (λ st₂ at.
    and_then (join_row_at C st₂ 8 (at + length (flat_pairs ps ++ flat_pairs qs ++ required)) all-offers) (λ st₃ all.
    and_then (join_row_at C st₃ 7 (at + length (flat_pairs ps ++ flat_pairs qs ++ required ++ A)) any-offers) (λ st₄ any.
    add_schema C st₄ (object_row ν at (length ps) (at + length (flat_pairs ps)) (length qs) all (at + length (flat_pairs ps ++ flat_pairs qs)) (length required) least most closed any naming)))))

pub merged_links : (C : Source) (st : State) (note : List ℕ) (ps qs : List (Pair ℕ)) (required : List ℕ) {A A' N N' : List ℕ} → A ≡ A' → N ≡ N' → (all any : Offers) (least most closed naming : ℕ) → merged_at C st note ps qs required A N all any least most closed naming ≡ merged_at C st note ps qs required A' N' all any least most closed naming
merged_links C st note ps qs required e1 e2 all any least most closed naming = cc

module _ {C : Source} {R : Room} (rooms : Rooms C R) (eq : ℕ → ℕ → Bool) (find : ℕ → Option ℕ) where
  -- "none, the one, or a new record of all"
  pub join_row_same : (st : State) → Grown C st → (kind first : ℕ) (o : Offers) (xs : List ℕ) → o.n ≡ length xs → o.last ≡ last_or NONE xs → Same C (join_row_at C st kind first o) (join_row R eq find kind (place xs first) (listed xs) (words_in st))
  unfolding join_row_at
  join_row_same st g kind first o [] e l = rw (e, l) (made st NONE g)
  join_row_same st g kind first o (x ∷ []) e l = rw (e, l) (made st x g)
  join_row_same st g kind first o (x ∷ (y ∷ ys)) e l =
      rw (e, le-ltb (length (x ∷ (y ∷ ys))) 2 (omega arith)) (schema_added rooms eq find st g (list_row kind NONE first (length (x ∷ (y ∷ ys)))) refl)

  pub merged_same : (st : State) → Grown C st → (note : List ℕ) → length note ≡ 9 → (ps qs : List (Pair ℕ)) (required xs ys : List ℕ) (all any : Offers) → all.n ≡ length xs → all.last ≡ last_or NONE xs → any.n ≡ length ys → any.last ≡ last_or NONE ys → (least most closed naming : ℕ) → Same C (merged_at C st note ps qs required (laid xs) (laid ys) all any least most closed naming) (merged_from R eq find note ps qs required (listed xs) (listed ys) least most closed naming (words_in st))
  unfolding merged_at
  merged_same st g note nine ps qs required xs ys all any e1 e2 e3 e4 least most closed naming =
      rw (merged_in_one R eq find note ps qs required xs ys least most closed naming (words_in st))
      (same_then _ _ (note_added rooms eq find st g note nine) (λ st₁ ν g₁.
      same_then _ _ (links_added rooms eq find st₁ g₁ (flat_pairs ps ++ flat_pairs qs ++ required ++ laid xs ++ laid ys)) (λ st₂ at g₂.
      same_then _ _ (join_row_same st₂ g₂ 8 (at + length (flat_pairs ps ++ flat_pairs qs ++ required)) all xs e1 e2) (λ st₃ one g₃.
      same_then _ _ (join_row_same st₃ g₃ 7 (at + length (flat_pairs ps ++ flat_pairs qs ++ required ++ laid xs)) any ys e3 e4) (λ st₄ two g₄.
      schema_added rooms eq find st₄ g₄ _ refl)))))
