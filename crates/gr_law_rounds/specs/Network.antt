-- What a delivery and a drop keep: cases of the law of events inside an epoch.
use Rattle.std.specs.Prelude.{ℕ}
use Rattle.gr_program.specs.Program.{Program}
use Rattle.gr_sched.specs.declared.event.Event.TheVariants as event
use Rattle.gr_cluster.specs.Tables.{Cluster}
use Rattle.gr_cluster.specs.Step.{step}
use Rattle.gr_agree.specs.Truth.{Truth}
use Rattle.gr_agree.specs.Agree.{Agree}
use Rattle.gr_agree.specs.Laws.{IsCommittedSame}

-- the cluster d agrees with the same committed state as c, and nothing that is committed has changed
abbrev pub IsKept : {V A : Type 0} → Program V A → Truth V → Cluster V A → Cluster V A → Type 0
IsKept P t c d = IsCommittedSame c d × Agree P t d

abbrev pub DeliveryKeeps : (V A : Type 0) → Type 0
DeliveryKeeps V A = (P : Program V A) (t : Truth V) (c : Cluster V A) (i : ℕ) → Agree P t c → IsKept P t c (step P c (event.Deliver i)).0

abbrev pub DropKeeps : (V A : Type 0) → Type 0
DropKeeps V A = (P : Program V A) (t : Truth V) (c : Cluster V A) (i : ℕ) → Agree P t c → IsKept P t c (step P c (event.Discarded i)).0
