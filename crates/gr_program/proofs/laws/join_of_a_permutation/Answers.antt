use Rattle.gr_program.proofs.Permuted.{total-permutation}
use Rattle.gr_program.proofs.laws.join_of_a_permutation.Goals as goal

pub returns : goal.returns
returns g c = λ p laws xs ys kept e. total-permutation laws xs ys kept e
