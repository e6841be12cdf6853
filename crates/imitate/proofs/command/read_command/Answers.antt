use Rattle.std.proofs.Common.{refl}
use Rattle.imitate.specs.Words.{asked_of}
use Rattle.imitate.proofs.command.read_command.Goals as goal

pub returns-in-Some-clause-some : goal.returns-in-Some-clause-some
unfolding asked_of
returns-in-Some-clause-some c = rw c.in-Some.ensures.some refl

pub returns-in-Some-run_names-clause-some : goal.returns-in-Some-run_names-clause-some
unfolding asked_of
returns-in-Some-run_names-clause-some c = rw (c.in_default.ensures.none refl, c.in-Some-run_names.ensures.some) refl

pub returns-in-Some-load_numbers-clause-some : goal.returns-in-Some-load_numbers-clause-some
unfolding asked_of
returns-in-Some-load_numbers-clause-some c = rw (c.in_default.ensures.none refl, c.in_default-run_names.ensures.none refl, c.in-Some-load_numbers.ensures.some) refl

pub returns-in-None-clause-none : goal.returns-in-None-clause-none
unfolding asked_of
returns-in-None-clause-none c = λ _. rw (c.in_default.ensures.none refl, c.in_default-run_names.ensures.none refl, c.in-None.ensures.none refl) refl
