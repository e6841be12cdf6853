-- Batches as bytes, by computation. Values and sums are numbers here.
use Rattle.std.proofs.Common.{◌≡◌, ℕ, [], ◌∷◌, refl, true, false}
use Rattle.std.specs.Prelude.{Some, None}
use Rattle.gr_batch.specs.declared.body.Body.{Body}
use Rattle.gr_batch.specs.declared.body.Body.TheVariants as body
use Rattle.gr_batch.specs.declared.batch.Batch.{Batch}
use Rattle.gr_batch.specs.Telling.{Telling}
use Rattle.gr_batch.specs.Spelling.{number_bytes, batch_bytes}

abbrev plain : Telling ℕ ℕ
plain = record { value_numbers = λ x. x ∷ []; sum_numbers = λ a. a ∷ [] }

abbrev batch : ℕ → ℕ → Body ℕ ℕ → Batch ℕ ℕ
batch p q b = record { serial = 2; epoch = 0; round = 0; sender = p; receiver = q; body = b }

-- the shortest spelling, to the greatest number
least_of_two_bytes : number_bytes 128 ≡ 128 ∷ 1 ∷ []
unfolding number_bytes
least_of_two_bytes = refl

greatest : number_bytes 18446744073709551615 ≡ 255 ∷ 255 ∷ 255 ∷ 255 ∷ 255 ∷ 255 ∷ 255 ∷ 255 ∷ 255 ∷ 1 ∷ []
unfolding number_bytes
greatest = refl

part : batch_bytes plain (batch 1 0 (body.Gather (record { vertex = 0; acc = 2 } ∷ []))) ≡ 0x02 ∷ 0x00 ∷ 0x00 ∷ 0x00 ∷ 0x01 ∷ 0x00 ∷ 0x01 ∷ 0x00 ∷ 0x02 ∷ []
unfolding batch_bytes number_bytes
part = refl

new_value : batch_bytes plain (batch 0 1 (body.Update (record { vertex = 0; value = 150000; wake = true } ∷ []))) ≡ 0x02 ∷ 0x00 ∷ 0x00 ∷ 0x01 ∷ 0x00 ∷ 0x01 ∷ 0x01 ∷ 0x00 ∷ 0xf0 ∷ 0x93 ∷ 0x09 ∷ 0x01 ∷ []
unfolding batch_bytes number_bytes
new_value = refl

asked : batch_bytes plain (batch 0 1 (body.Ask (3 ∷ 300 ∷ []))) ≡ 2 ∷ 0 ∷ 0 ∷ 4 ∷ 0 ∷ 1 ∷ 2 ∷ 3 ∷ 0xac ∷ 0x02 ∷ []
unfolding batch_bytes number_bytes
asked = refl

-- a copy with its value, and one without
granted : batch_bytes plain (batch 0 1 (body.Grant (record { vertex = 1; indeg = 1; outdeg = 0; master = 1; holders = 0 ∷ 1 ∷ []; value = None; due = true } ∷ record { vertex = 5; indeg = 1; outdeg = 1; master = 1; holders = 0 ∷ 1 ∷ []; value = Some 7; due = false } ∷ []))) ≡ 2 ∷ 0 ∷ 0 ∷ 5 ∷ 0 ∷ 1 ∷ 2 ∷ 1 ∷ 1 ∷ 0 ∷ 1 ∷ 3 ∷ 0 ∷ 1 ∷ 5 ∷ 1 ∷ 1 ∷ 1 ∷ 3 ∷ 1 ∷ 7 ∷ 0 ∷ []
unfolding batch_bytes number_bytes
granted = refl
