use Prim.Native.Nat.{ℕ}
use mathlib.Core.Path.{◌≡◌, ◌∙◌}
use borrow.Author.Rules.{rules}
use Rattle.compilation.specs.Table.{last_word, merged_note_in}
use Rattle.inherit.proofs.merged_note.Goals as goal

pub returns : goal.returns
unfolding merged_note_in
returns c =
    let last : ℕ → ℕ = λ k. last_word c.args.notes.now c.args.schemas.now k k 4294967295 c.args.bases.now in
    let a : c.last.result ≡ last 1 = search rules in
    let b : c.last-2.result ≡ last 2 = search rules in
    let d : c.last-3.result ≡ last 3 = search rules in
    let e : c.last-4.result ≡ last 4 = search rules in
    let f : c.last-5.result ≡ last 5 = search rules in
    let g : c.last-6.result ≡ last 6 = search rules in
    let h : c.last-7.result ≡ last 7 = search rules in
    c.note_row.ensures ∙ rw (c.or_word.ensures, c.note_field-own.ensures, a, b, d, e, f, g, h, c.last_word.ensures)
