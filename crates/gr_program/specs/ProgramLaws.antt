-- The laws that a program keeps.
use Rattle.std.specs.Prelude.{◌≡◌, ℕ, ◌<◌, ◌^◌, false, IsTrue}
use Rattle.gr_program.specs.Program.{Program}

-- each answer is a value or a sum of the program, the sums are a commutative monoid under join, and the mark means what it says
pub record ProgramLaws {V A : Type 0} (p : Program V A) : Type 0 where
  pub start_kept : (v i o : ℕ) → v < 2 ^ 32 → IsTrue (p.is_value (p.start v i o))
  pub unit_kept : IsTrue (p.is_acc p.unit)
  pub along_kept : (x : V) (w d : ℕ) → IsTrue (p.is_value x) → 0 < d → IsTrue (p.is_acc (p.along x w d))
  pub join_kept : (a b : A) → IsTrue (p.is_acc a) → IsTrue (p.is_acc b) → IsTrue (p.is_acc (p.join a b))
  pub apply_kept : (v : ℕ) (x : V) (a : A) → IsTrue (p.is_value x) → IsTrue (p.is_acc a) → IsTrue (p.is_value (p.apply v x a))
  pub assoc : (a b c : A) → IsTrue (p.is_acc a) → IsTrue (p.is_acc b) → IsTrue (p.is_acc c) → p.join (p.join a b) c ≡ p.join a (p.join b c)
  pub comm : (a b : A) → IsTrue (p.is_acc a) → IsTrue (p.is_acc b) → p.join a b ≡ p.join b a
  pub unit_left : (a : A) → IsTrue (p.is_acc a) → p.join p.unit a ≡ a
  pub apply_forgets : IsTrue p.forgetful → (v : ℕ) (x y : V) (a : A) → IsTrue (p.is_value x) → IsTrue (p.is_value y) → IsTrue (p.is_acc a) → p.apply v x a ≡ p.apply v y a
  pub along_stays : IsTrue p.forgetful → (x y : V) → IsTrue (p.is_value x) → IsTrue (p.is_value y) → p.wakes x y ≡ false → (w d : ℕ) → 0 < d → p.along x w d ≡ p.along y w d
