use Rattle.std.proofs.Common.{ℕ, List, ◌∷◌, take, sym, ap, ◌∙◌}
use Rattle.std.proofs.lemmas.List.{take_rest}
use Rattle.gr_text.specs.Fields.{fields_of}
use Rattle.gr_text.proofs.Splitting.{fields-first}
use Rattle.gr_edges.proofs.number.next_number.Goals as goal

pub returns-in-Some-clause-some : goal.returns-in-Some-clause-some
returns-in-Some-clause-some c =
    let rest = c.past_blank-rest.result.now in
    let n = c.in-Some.len in
    sym c.past_blank-rest.ensures.fields ∙ fields-first rest n c.in-Some.ensures.len c.in-Some.ensures.some
    ∙ ap (λ (r : List ℕ). let more : List (List ℕ) = take n rest ∷ fields_of r in more) (sym (take_rest rest n))
