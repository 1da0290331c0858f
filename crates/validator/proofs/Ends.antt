-- What a cleared buffer holds, and what the public entry answers. Assumes nothing.
use Prim.Native.Nat.{ℕ, ◌+◌, ◌-◌, ◌*◌, ◌≤◌, ◌<◌}
use mathlib.Core.Path.{◌≡◌, refl, sym, ap, ◌∙◌}
use mathlib.Core.Bool.{Bool, true, false}
use mathlib.Core.List.{List, [], ◌++◌}
use native.Mathlib.Omega.{arith}
use native.Mathlib.Nat.{zero-add}
use native.Mathlib.Decide.{dec_lt}
use lib.Dec.{ltb}
use lib.ListN.{length, get_or, replicate, length-append, length-replicate, get_or-replicate, get_or-append}
use lib.Seq.{ext_get_or, get_or-append-add}
use borrow.Author.Tests.{ltb-false}
use Rattle.text.specs.Choice.{either, pick}
use Rattle.text.specs.Text.{padded}
use Rattle.error.specs.declared.Answer.{Answer}
use Rattle.error.specs.declared.Failure.{Failure}
use Rattle.error.specs.declared.Failure.TheVariants.{WrongNumber, ShortBuffer}
use Rattle.error.specs.Answers.{plain_answer, failure_answer}
use Rattle.error.specs.declared.Mode.{Mode}
use Rattle.error.specs.Paths.{Step, path_words, instance_buffer, schema_buffer}
use Rattle.error.proofs.Paths.{path-length}
use Rattle.layout.specs.Layout.{Tables, most_bytes, node_count, schema_count}
use Rattle.tables.specs.Found.{Fault}
use Rattle.tables.specs.Check.{tables_fault}
use Rattle.tables.proofs.Facts.{well_formed}
use Rattle.std.specs.Prelude.{Result, Ok, Err}
use Rattle.validator.specs.Outcome.{Outcome, accepted, refused, invalid, ended}
use Rattle.validator.specs.Validate.{Validated, leaving, empty_handed, answered, checked_first, visit_of, validate_of}
use Rattle.validator.specs.Met.{Visited, told, steps_of, kinds_of, Holds, Cleared, Met, sound_or, begun_of, answer_to, steps_told, kinds_told, Finished}

-- a buffer that holds p and then zeros
padded_is : (p ys : List ℕ) (n : ℕ) → length ys ≡ n → length p ≤ n → ((j : ℕ) → j < length p → get_or ys j 0 ≡ get_or p j 0) → ((j : ℕ) → length p ≤ j → get_or ys j 0 ≡ 0) → ys ≡ padded p n
unfolding padded
padded_is p ys n e le front back =
    ext_get_or 0 ys (p ++ replicate (n - length p) 0) (simp (length-append, length-replicate) (omega arith))
    (λ j h. at j h (dec_lt j (length p)))
  where
    at : (j : ℕ) → j < length ys → Dec (j < length p) → get_or ys j 0 ≡ get_or (p ++ replicate (n - length p) 0) j 0
    at j h (yes lt) = front j lt ∙ sym (get_or-append p (replicate (n - length p) 0) 0 j lt)
    at j h (no ge) =
        let m : length p ≤ j = omega arith in
        let s : j ≡ length p + (j - length p) = omega arith in
        back j m ∙ sym (ap (λ (q : ℕ). get_or (p ++ replicate (n - length p) 0) q 0) s ∙ get_or-append-add p (replicate (n - length p) 0) (j - length p) 0 ∙ get_or-replicate (n - length p) (j - length p) 0 0 (omega arith))

-- a path that stands in a buffer, and zeros behind it
held : (p xs ys : List ℕ) (m n : ℕ) → m ≡ length p → length xs ≡ n → length p ≤ n → Holds xs 0 p → Cleared m xs ys → ys ≡ padded p n
unfolding Holds
held p xs ys m n e l le h c =
    padded_is p ys n (c.long ∙ l) le
    (λ j g. c.kept j (omega (arith, e)) ∙ ap (λ (z : ℕ). get_or xs z 0) (sym (zero-add j)) ∙ h j g)
    (λ j g. c.zeros j (omega (arith, e)))

empty : (xs ys : List ℕ) → Cleared 0 xs ys → ys ≡ padded [] (length xs)
empty xs ys c = padded_is [] ys (length xs) c.long (omega arith) (λ j h. absurd (omega arith)) (λ j h. c.zeros j (omega arith))

-- ---- the whole answer
leaving_is : (a : Answer) (I S : List ℕ) (steps : List Step) (kinds : List ℕ) (i k : ℕ) → I ≡ padded (path_words steps) i → S ≡ padded kinds k → ◌≡◌ {A = Validated} (record { answer = a; instance = I; schema = S }) (leaving a steps kinds i k)
unfolding instance_buffer schema_buffer
leaving_is a I S steps kinds i k p q = rw (p, q)

-- answered before the work
pub stopped : {r a : Answer} {I I' S S' : List ℕ} → r ≡ a → Cleared 0 I I' → Cleared 0 S S' → ◌≡◌ {A = Validated} (record { answer = r; instance = I'; schema = S' }) (empty_handed a (length I) (length S))
unfolding path_words
stopped {r} {a} {I} {I'} {S} {S'} q ci cs = rw q (leaving_is a I' S' [] [] (length I) (length S) (empty I I' ci) (empty S S' cs))

answered_is : (o : Outcome) (i k : ℕ) → answered o i k ≡ leaving (answer_to (told o 0 0)) (steps_of o) (kinds_of o) i k
answered_is accepted i k = refl
answered_is (refused e) i k = rw (zero-add (length e.steps), zero-add (length e.kinds))
answered_is (invalid p) i k = rw (zero-add (length p))
answered_is (ended n) i k = refl

steps_told_lem : (o : Outcome) → steps_told (told o 0 0) ≡ length (steps_of o)
steps_told_lem accepted = refl
steps_told_lem (refused e) = zero-add (length e.steps)
steps_told_lem (invalid p) = zero-add (length p)
steps_told_lem (ended n) = refl

kinds-told : (o : Outcome) → kinds_told (told o 0 0) ≡ length (kinds_of o)
kinds-told accepted = refl
kinds-told (refused e) = zero-add (length e.kinds)
kinds-told (invalid p) = refl
kinds-told (ended n) = refl

pub finish_is : (a b : Visited) (I I' S S' : List ℕ) (r : Answer) → a ≡ b → Finished b I I' S S' r → Finished a I I' S S' r
finish_is a b I I' S S' r e f = rw e f

-- after the work
pub finished : (o : Outcome) (I J I' S R S' : List ℕ) (a : Visited) (r : Answer) → Met o true 0 0 I J S R a → 128 ≤ length I → 64 ≤ length S → Finished a J I' R S' r → ◌≡◌ {A = Validated} (record { answer = r; instance = I'; schema = S' }) (answered o (length I) (length S))
finished o I J I' S R S' a r m li ls f =
    let x : steps_told a ≡ length (steps_of o) = ap steps_told m.answer ∙ steps_told_lem o in
    let y : kinds_told a ≡ length (kinds_of o) = ap kinds_told m.answer ∙ kinds-told o in
    let w : length (path_words (steps_of o)) ≡ length (steps_of o) * 2 = path-length (steps_of o) in
    leaving_is r I' S' (steps_of o) (kinds_of o) (length I) (length S)
    (held (path_words (steps_of o)) J I' (steps_told a * 2) (length I) (omega (arith, x, w)) m.calm_i.long (omega (arith, m.few_i, w, li)) (m.path_i refl) f.instance)
    (held (kinds_of o) R S' (kinds_told a) (length S) y m.calm_s.long (omega (arith, m.few_k, ls)) (m.path_s refl) f.schema)
    ∙ ap (λ (z : Answer). leaving z (steps_of o) (kinds_of o) (length I) (length S)) (f.answer ∙ ap answer_to m.answer)
    ∙ sym (answered_is o (length I) (length S))

-- ---- before and after the start of the work
abbrev Begun : Type 0
Begun = Result Unit Failure

abbrev on_begun : Begun → ℕ → ℕ → Validated → Validated
on_begun (Err f) i k rest = empty_handed (failure_answer f) i k
on_begun (Ok _) i k rest = rest

begun_cases : (f : Fault) (b c d : Bool) (i k : ℕ) (rest : Validated) → checked_first f i k (pick b (pick c (pick d (empty_handed (plain_answer 22) i k) rest) (empty_handed (plain_answer 21) i k)) (empty_handed (plain_answer 21) i k)) ≡ on_begun (sound_or f (pick b (pick c (pick d (Err ShortBuffer) (Ok tt)) (Err WrongNumber)) (Err WrongNumber))) i k rest
begun_cases (Err failure) b c d i k rest = refl
begun_cases (Ok u) false c d i k rest = refl
begun_cases (Ok u) true false d i k rest = refl
begun_cases (Ok u) true true true i k rest = refl
begun_cases (Ok u) true true false i k rest = refl

module _ (T : Tables) (mode : Mode) (n s i k : ℕ) (b : Begun) (e : b ≡ begun_of T n s i k) where
  validate_is : validate_of T mode n s i k ≡ on_begun b i k (answered (visit_of T mode 64 n s) i k)
  unfolding validate_of begun_of
  validate_is = begun_cases (tables_fault T) (ltb n (node_count T.nodes)) (ltb s (schema_count T.schemas)) (either (ltb i 128) (ltb k 64)) i k (answered (visit_of T mode 64 n s) i k) ∙ ap (λ (x : Begun). on_begun x i k (answered (visit_of T mode 64 n s) i k)) (sym e)

  pub validate_stop : (f : Failure) → b ≡ Err f → validate_of T mode n s i k ≡ empty_handed (failure_answer f) i k
  validate_stop f h = validate_is ∙ rw h

  pub validate_work : b ≡ Ok tt → validate_of T mode n s i k ≡ answered (visit_of T mode 64 n s) i k
  validate_work h = validate_is ∙ rw h

-- what is known where the work starts
pub record Started (T : Tables) (i k : ℕ) : Type 0 where
  pub instance : 128 ≤ i
  pub schema : 64 ≤ k
  pub bytes : length T.pool ≤ most_bytes

start_cases : (T : Tables) (f : Fault) (b c x y : Bool) (i k : ℕ) → f ≡ tables_fault T → x ≡ ltb i 128 → y ≡ ltb k 64 → Ok tt ≡ sound_or f (pick b (pick c (pick (either x y) (Err ShortBuffer) (Ok tt)) (Err WrongNumber)) (Err WrongNumber)) → Started T i k
start_cases T (Err failure) b c x y i k e p q h = absurd (let z : ◌≡◌ {A = ℕ} 0 1 = cc in omega arith)
start_cases T (Ok u) false c x y i k e p q h = absurd (let z : ◌≡◌ {A = ℕ} 0 1 = cc in omega arith)
start_cases T (Ok u) true false x y i k e p q h = absurd (let z : ◌≡◌ {A = ℕ} 0 1 = cc in omega arith)
start_cases T (Ok u) true true true y i k e p q h = absurd (let z : ◌≡◌ {A = ℕ} 0 1 = cc in omega arith)
start_cases T (Ok u) true true false true i k e p q h = absurd (let z : ◌≡◌ {A = ℕ} 0 1 = cc in omega arith)
start_cases T (Ok u) true true false false i k e p q h =
    record {
      instance = ltb-false i 128 (sym p);
      schema = ltb-false k 64 (sym q);
      bytes = (well_formed T (sym e)).sized.pool;
    }

pub started : (T : Tables) (n s i k : ℕ) (b : Begun) → b ≡ begun_of T n s i k → b ≡ Ok tt → Started T i k
unfolding begun_of
started T n s i k b e h = start_cases T (tables_fault T) (ltb n (node_count T.nodes)) (ltb s (schema_count T.schemas)) (ltb i 128) (ltb k 64) i k refl refl refl (sym h ∙ e)
