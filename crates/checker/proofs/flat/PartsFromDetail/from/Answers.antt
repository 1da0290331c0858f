use mathlib.Core.Path.{sym, ap, ◌∙◌}
use Rattle.checker.specs.Flat.{parts_of}
use Rattle.checker.proofs.flat.PartsFromDetail.from.Goals as goal

pub returns-in-Empty : goal.returns-in-Empty
unfolding parts_of
returns-in-Empty c = c.words.ensures ∙ sym (ap parts_of c.in-Empty.is)

pub returns-in-Types : goal.returns-in-Types
unfolding parts_of
returns-in-Types c = c.words-in-Types.ensures ∙ sym (ap parts_of c.in-Types.is)

pub returns-in-Property : goal.returns-in-Property
unfolding parts_of
returns-in-Property c = c.words-in-Property.ensures ∙ sym (ap parts_of c.in-Property.is)

pub returns-in-Key : goal.returns-in-Key
unfolding parts_of
returns-in-Key c = c.words-in-Key.ensures ∙ sym (ap parts_of c.in-Key.is)

pub returns-in-Count : goal.returns-in-Count
unfolding parts_of
returns-in-Count c = c.words-in-Count.ensures ∙ sym (ap parts_of c.in-Count.is)

pub returns-in-Multiple : goal.returns-in-Multiple
unfolding parts_of
returns-in-Multiple c = c.reals.ensures ∙ sym (ap parts_of c.in-Multiple.is)

pub returns-in-Pattern : goal.returns-in-Pattern
unfolding parts_of
returns-in-Pattern c = c.words-in-Pattern.ensures ∙ sym (ap parts_of c.in-Pattern.is)

pub returns-in-Reference : goal.returns-in-Reference
unfolding parts_of
returns-in-Reference c = c.words-in-Reference.ensures ∙ sym (ap parts_of c.in-Reference.is)

pub returns-in-OutOfRange : goal.returns-in-OutOfRange
returns-in-OutOfRange c = c.from.ensures ∙ sym (ap parts_of c.in-OutOfRange.is)
