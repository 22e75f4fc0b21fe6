-- The tables of no entries stand for the account of none.
use Rattle.fw_account_tables.proofs.Common.{◌≡◌, ◌-◌, ℕ, zero, suc, false, nat_lt, None, List, [], length, get_or}
use Rattle.fw_account_tables.proofs.Common.{slice_index, refl, sym, ◌∙◌, ap, arith, false≢true, nat_tests, StandsFor, no_seats, Tables}
use Rattle.fw_account_tables.proofs.Common.{Free, NotAsked}
use Rattle.std.proofs.Common.{replicate}
use Rattle.std.proofs.lemmas.List.{length-replicate}
use Rattle.fw_terms.proofs.Tables.{sum_to_zero}
use Rattle.fw_model_account.specs.Fold.{no_account}
use Rattle.fw_account_tables.specs.Stands.{first_high}
use Rattle.fw_account_tables.specs.declared.tables.Reclaimable.TheVariants.{Nothing as NoFlow}
use Rattle.fw_account_tables.specs.declared.tables.Addressed.TheVariants.{Nowhere}
use Rattle.fw_model_account.proofs.Fold.{starts_sound}
use Rattle.fw_model_account.proofs.Open.{low_starts}

-- each place of the copies has the value
pub copy_at : {A : Type 0} (n i : ℕ) (v : A) → get_or (replicate n v) i v ≡ v
copy_at zero i v = refl
copy_at (suc n) zero v = refl
copy_at (suc n) (suc i) v = copy_at n i v

-- the tables of no entries
pub record IsNew (t : Tables) : Type 0 where
  pub started : t.started ≡ false
  pub manager : t.manager ≡ None
  pub nodes : t.nodes ≡ []
  pub reclaiming : t.reclaiming ≡ false
  pub withheld : t.withheld ≡ false
  pub left : t.left ≡ 4915
  pub high : t.high ≡ first_high false
  pub low : t.low ≡ 4294967295
  pub charges : t.charges.items ≡ replicate 64 Free
  pub reclaimable : t.reclaimable.items ≡ replicate 64 NoFlow
  pub addressed : t.addressed.items ≡ replicate 63 Nowhere
  pub asked : t.asked.items ≡ replicate 63 NotAsked
  pub outs : t.outs ≡ replicate 63 0
  pub ins : t.ins ≡ replicate 63 0
  pub outputs : t.outputs.items ≡ replicate 1953 0
  pub inputs : t.inputs.items ≡ replicate 1953 0
  pub output_seats : t.output_seats.items ≡ replicate 1953 no_seats
  pub input_seats : t.input_seats.items ≡ replicate 1953 no_seats
  pub continues : t.continues.items ≡ replicate 1953 false

-- so many copies
size_is : {A : Type 0} (xs : List A) (n : ℕ) (v : A) → xs ≡ replicate n v → length xs ≡ n
size_is xs n v e = ap length e ∙ length-replicate n v

-- no plug of none
pub no_plug : (n : ℕ) → false ≡ nat_lt n 0
no_plug n = grind (arith, nat_tests)

-- a count of a device is 0
pub no_count : (d : ℕ) → slice_index (replicate 63 0) d ≡ 0
no_count d = let none : ℕ = 0 in copy_at {A = ℕ} 63 d none

pub starts_stand : (t : Tables) → IsNew t → StandsFor t no_account
starts_stand t n = record {
  sizes = record {
    charges = size_is _ _ _ n.charges;
    reclaimable = size_is _ _ _ n.reclaimable;
    addressed = size_is _ _ _ n.addressed;
    asked = size_is _ _ _ n.asked;
    outputs = size_is _ _ _ n.outputs;
    inputs = size_is _ _ _ n.inputs;
    output_seats = size_is _ _ _ n.output_seats;
    input_seats = size_is _ _ _ n.input_seats;
    continues = size_is _ _ _ n.continues;
  };
  latest = (n.started, n.manager, n.nodes);
  plugs = record { outs = λ p. rw (n.outs, no_count p.device) (no_plug p.plug); ins = λ p. rw (n.ins, no_count p.device) (no_plug p.plug) };
  withheld = n.withheld;
  resources = record {
    left = n.left ∙ sym (ap (λ m. 4915 - m) (sum_to_zero 64));
    high = n.high;
    low = n.low ∙ sym (low_starts false);
    charges = λ ch lt. rw (n.charges, copy_at 64 ch Free) refl;
  };
  second = record {
    runs = n.reclaiming;
    reclaimable = λ runs ch lt. absurd (false≢true (sym n.reclaiming ∙ runs));
    continues = λ runs p is. absurd (false≢true is);
  };
  outputs = record { words = λ p is. absurd (false≢true is); seats = λ p is. absurd (false≢true is) };
  inputs = record { words = λ p is. absurd (false≢true is); seats = λ p is. absurd (false≢true is) };
  controllers = record {
    addressed = λ c lt. rw (n.addressed, copy_at 63 c Nowhere) refl;
    asked = λ c lt. rw (n.asked, copy_at 63 c NotAsked) refl;
  };
  sound = starts_sound;
}
