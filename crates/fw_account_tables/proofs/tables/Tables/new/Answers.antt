use Rattle.fw_account_tables.proofs.Common.{refl}
use Rattle.fw_account_tables.proofs.Starts.{starts_stand}
use Rattle.fw_account_tables.proofs.tables.Tables.new.Goals as goal

pub returns : goal.returns
returns c = starts_stand _ (record {
  started = refl;
  manager = refl;
  nodes = c.new.ensures;
  reclaiming = refl;
  withheld = refl;
  left = refl;
  high = c.first_high.ensures;
  low = refl;
  charges = c.in_ok-vec.ensures.items_if_clones_equal (λ y e. e);
  reclaimable = c.in_ok-vec-2.ensures.items_if_clones_equal (λ y e. e);
  addressed = c.in_ok-vec-3.ensures.items_if_clones_equal (λ y e. e);
  asked = c.in_ok-vec-4.ensures.items_if_clones_equal (λ y e. e);
  outs = refl;
  ins = refl;
  outputs = c.in_ok-vec-5.ensures.items_if_clones_equal (λ y e. e);
  inputs = c.in_ok-vec-6.ensures.items_if_clones_equal (λ y e. e);
  output_seats = rw (← c.empty.ensures) (c.in_ok-vec-7.ensures.items_if_clones_equal (λ y e. e));
  input_seats = rw (← c.empty-2.ensures) (c.in_ok-vec-8.ensures.items_if_clones_equal (λ y e. e));
  continues = c.in_ok-vec-9.ensures.items_if_clones_equal (λ y e. e);
})
