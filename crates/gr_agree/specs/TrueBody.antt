-- What a batch of the present epoch holds, by the committed state alone.
use Rattle.std.specs.Prelude.{ℕ, ◌≡◌}
use Rattle.gr_program.specs.Program.{Program}
use Rattle.gr_copies.specs.declared.view.RebuildView.{RebuildView}
use Rattle.gr_batch.specs.declared.body.Body.{Body}
use Rattle.gr_batch.specs.declared.body.Body.TheVariants as body
use Rattle.gr_agree.specs.Truth.{Truth}
use Rattle.gr_agree.specs.TrueRound.{true_parts, true_values, true_signals, true_calls}
use Rattle.gr_agree.specs.Rebuilt.{true_asks, true_grants}

-- the body of a batch from p to q, in a cluster that rebuilds by the view w with so many wanted holders
abbrev pub TrueBody : {V A : Type 0} → Program V A → RebuildView → ℕ → Truth V → ℕ → ℕ → Body V A → Type 0
TrueBody P w want t p q (body.Gather xs) = xs ≡ true_parts P t p q
TrueBody P w want t p q (body.Update xs) = xs ≡ true_values P t p q
TrueBody P w want t p q (body.Signal xs) = xs ≡ true_signals P t p q
TrueBody P w want t p q (body.Call xs) = xs ≡ true_calls P t p q
TrueBody P w want t p q (body.Ask xs) = xs ≡ true_asks w t p q
TrueBody P w want t p q (body.Grant xs) = xs ≡ true_grants P w want t p q
