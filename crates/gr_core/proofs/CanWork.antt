-- Whether the next work of a place does something, by whose turn it is.
use Rattle.std.proofs.Common.{◌≡◌, ℕ, Bool, true, false, refl, sym, ap, ◌∙◌, Option, Some, None}
use Rattle.gr_program.specs.Program.{Program}
use Rattle.gr_program.specs.ProgramLaws.{ProgramLaws}
use Rattle.gr_view.specs.Modes.{is_over}
use Rattle.gr_rules.specs.Todo.{Todo, is_act}
use Rattle.gr_cluster.specs.Tables.{Host, Cluster, host}
use Rattle.gr_cluster.specs.Todo.{todo, can_work}
use Rattle.gr_core.specs.Rebuilds.{HasToDo}
use Rattle.gr_core.specs.Tables.{Agrees}
use Rattle.gr_core.specs.declared.turn.Turn.TheVariants as turn
use Rattle.gr_core.specs.Turns.{turn_of}
use Rattle.gr_core.proofs.Acting.{next-is}
use Rattle.gr_core.proofs.Needs.{may-work, rest-here}
use Rattle.gr_core.proofs.Turns.{turn-install, turn-adopt, turn-act, todo-install, todo-adopt}
use Rattle.gr_core.specs.Steps.{next_of}
use Rattle.gr_view.specs.Decisions.{parties}

module _ {V A : Type 0} (P : Program V A) (c : Cluster V A) (p : ℕ) where
  -- nothing is to be done once the run is over
  pub can_work-over : is_over c.coordinator.mode ≡ true → can_work c.coordinator p (host c p) ≡ false
  unfolding todo
  can_work-over o = of (host c p)
    where
      of : (x : Option (Host V A)) → can_work c.coordinator p x ≡ false
      of None = refl
      of (Some h) = rw o refl

  module _ (L : ProgramLaws P) (K : Agrees P c) (over : is_over c.coordinator.mode ≡ false) where
    pub can_work-rest : turn_of c.coordinator (host c p) ≡ turn.Rest → can_work c.coordinator p (host c p) ≡ false
    can_work-rest is = of (host c p) refl is
      where
        of : (x : Option (Host V A)) → host c p ≡ x → turn_of c.coordinator x ≡ turn.Rest → can_work c.coordinator p x ≡ false
        of None at is = refl
        of (Some h) at is = ap is_act (rest-here P L K.state c K.holds over p h at is)

    pub can_work-install : turn_of c.coordinator (host c p) ≡ turn.Install → can_work c.coordinator p (host c p) ≡ true
    can_work-install is =
        let I = turn-install c.coordinator (host c p) is in
        ap (can_work c.coordinator p) I.is ∙ ap is_act (todo-install P c p over I.at I.less)

    pub can_work-adopt : turn_of c.coordinator (host c p) ≡ turn.Adopt → can_work c.coordinator p (host c p) ≡ true
    can_work-adopt is =
        let I = turn-adopt c.coordinator (host c p) is in
        ap (can_work c.coordinator p) I.is ∙ ap is_act (todo-adopt P c p over I.at I.installed I.less)

    -- in a round it is whether the place may act
    pub can_work-act : (serial theta : ℕ) (b : Bool) → turn_of c.coordinator (host c p) ≡ turn.Act
        → ((h : Host V A) → host c p ≡ Some h → b ≡ is_act (next_of p (record { epoch = c.coordinator.epoch; round = c.coordinator.round; parties = parties c.coordinator; serial = serial; theta = theta }) h))
        → b ≡ can_work c.coordinator p (host c p)
    can_work-act serial theta b is acts =
        let I = (turn-act c.coordinator (host c p) is).0 in
        let M = may-work P L K.state c K.holds over p I.at I.is (sym (ap (turn_of c.coordinator) I.is) ∙ is) in
        acts I.at I.is ∙ ap is_act (next-is P c.coordinator p I.at M serial theta) ∙ sym (ap (can_work c.coordinator p) I.is)

    -- in a rebuild too
    pub can_work-rebuild : (x : Todo) → HasToDo c p x → is_act x ≡ can_work c.coordinator p (host c p)
    can_work-rebuild x N = ap is_act (sym N.next) ∙ sym (ap (can_work c.coordinator p) N.is)
