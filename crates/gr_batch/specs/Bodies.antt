-- What a body is of, and which batch it is.
use Rattle.std.specs.Prelude.{ℕ, Bool, ◌&&◌, ◌==◌, List, []}
use Rattle.gr_program.specs.declared.copy.VertexCopy.{VertexCopy}
use Rattle.gr_batch.specs.declared.body.Part.{Part}
use Rattle.gr_batch.specs.declared.body.NewValue.{NewValue}
use Rattle.gr_batch.specs.declared.body.Body.{Body}
use Rattle.gr_batch.specs.declared.body.Body.TheVariants as body
use Rattle.gr_batch.specs.declared.batch.Batch.{Batch}
use Rattle.gr_batch.specs.declared.stage.Stage.{Stage}
use Rattle.gr_batch.specs.declared.stage.Stage.TheVariants as stage
use Rattle.gr_batch.specs.Stages.{is_stage}

-- the stage in which a body is sent
abbrev pub stage_of_body : {V A : Type 0} → Body V A → Stage
stage_of_body (body.Gather xs) = stage.Gather
stage_of_body (body.Update xs) = stage.Update
stage_of_body (body.Signal xs) = stage.Signal
stage_of_body (body.Call xs) = stage.Call
stage_of_body (body.Ask xs) = stage.Ask
stage_of_body (body.Grant xs) = stage.Grant

-- whether it is the batch of this sender, epoch and stage, as it lies in an inbox
abbrev pub is_of : {V A : Type 0} → ℕ → ℕ → Stage → Batch V A → Bool
is_of p e s b = (b.sender == p) && ((b.epoch == e) && is_stage s (stage_of_body b.body))

-- and of this receiver, as it may lie in the flight
abbrev pub is_from : {V A : Type 0} → ℕ → ℕ → ℕ → Stage → Batch V A → Bool
is_from p q e s b = (b.receiver == q) && is_of p e s b

-- the items of a body of each kind, none of another
abbrev pub parts_of : {V A : Type 0} → Body V A → List (Part A)
parts_of (body.Gather xs) = xs
parts_of _ = []

abbrev pub values_of : {V A : Type 0} → Body V A → List (NewValue V)
values_of (body.Update xs) = xs
values_of _ = []

abbrev pub signals_of : {V A : Type 0} → Body V A → List ℕ
signals_of (body.Signal xs) = xs
signals_of _ = []

abbrev pub calls_of : {V A : Type 0} → Body V A → List ℕ
calls_of (body.Call xs) = xs
calls_of _ = []

abbrev pub asks_of : {V A : Type 0} → Body V A → List ℕ
asks_of (body.Ask xs) = xs
asks_of _ = []

abbrev pub grants_of : {V A : Type 0} → Body V A → List (VertexCopy V)
grants_of (body.Grant xs) = xs
grants_of _ = []
