-- The tables after the end of a reclaim second, and after channel 31 is withheld.
use Rattle.fw_ledger.proofs.Common.{◌≡◌, ◌+◌, ℕ, Bool, true, false, Option, Some, None, is_some, cond, refl, sym, ap, subst, ◌∙◌, false≢true, ResetEntry, Account, is_free, is_open, StandsFor, Follows}
use Rattle.fw_ledger.proofs.Common.{ShowsReset, Tables, same_open}
use Rattle.fw_model_account.specs.Events.{after_second, after_withholding}
use Rattle.fw_model_account.specs.Words.{bits_word}
use Rattle.fw_account_tables.specs.Stands.{first_high}
use Rattle.fw_model_account.proofs.Events.{second_ends, withholding_keeps}
use Rattle.fw_model_account.proofs.Open.{low_starts}
use Rattle.fw_account_tables.proofs.Swapping.{bits_same}

second_stands : (t : Tables) (l : Account) → StandsFor t l → StandsFor (record t { reclaiming = false }) (after_second l)
second_stands t l h = record {
  sizes = record {
    charges = h.sizes.charges;
    reclaimable = h.sizes.reclaimable;
    addressed = h.sizes.addressed;
    asked = h.sizes.asked;
    outputs = h.sizes.outputs;
    inputs = h.sizes.inputs;
    output_seats = h.sizes.output_seats;
    input_seats = h.sizes.input_seats;
    continues = h.sizes.continues;
  };
  latest = h.latest;
  plugs = h.plugs;
  withheld = h.withheld;
  resources = h.resources;
  second = record { runs = refl; reclaimable = λ runs ch lt. absurd (false≢true runs); continues = λ runs p is. absurd (false≢true runs) };
  outputs = h.outputs;
  inputs = h.inputs;
  controllers = h.controllers;
  sound = second_ends l h.sound;
}

-- the second that runs is over
pub second_follows : (t : Tables) (l : Account) → StandsFor t l → t.reclaiming ≡ true → Follows true t (record t { reclaiming = false }) (cond l.reclaiming (Some (after_second l)) None)
second_follows t l h runs = rw (sym h.second.runs ∙ runs) (refl, second_stands t l h)

-- none runs
pub no_second_follows : (t : Tables) (l : Account) → StandsFor t l → t.reclaiming ≡ false → Follows false t t (cond l.reclaiming (Some (after_second l)) None)
no_second_follows t l h none = rw (sym h.second.runs ∙ none) (refl, refl)

-- ---- channel 31 is withheld

-- nothing is allocated yet
none_open : (withheld : Bool) (l : Account) (base : ℕ) → ((ch : ℕ) → l.allocations ch ≡ None)
    → bits_word (λ i. is_open withheld l.allocations (base + i)) ≡ bits_word (λ i. is_open withheld (λ ch. None) (base + i))
none_open withheld l base none = bits_same _ _ (λ i. same_open withheld l.allocations (λ ch. None) (base + i) (ap is_free (none (base + i))))

withholding_stands : (t : Tables) (l : Account) (word : ℕ) → StandsFor t l → l.latest ≡ None → word ≡ first_high true
    → StandsFor (record t { withheld = true; high = word }) (after_withholding l)
withholding_stands t l word h first e = let none = (h.sound.begins first).allocations in record {
  sizes = record {
    charges = h.sizes.charges;
    reclaimable = h.sizes.reclaimable;
    addressed = h.sizes.addressed;
    asked = h.sizes.asked;
    outputs = h.sizes.outputs;
    inputs = h.sizes.inputs;
    output_seats = h.sizes.output_seats;
    input_seats = h.sizes.input_seats;
    continues = h.sizes.continues;
  };
  latest = h.latest;
  plugs = h.plugs;
  withheld = refl;
  resources = record {
    left = h.resources.left;
    high = e ∙ sym (none_open true l 0 none);
    low = h.resources.low ∙ none_open l.withheld l 32 none ∙ low_starts l.withheld ∙ sym (low_starts true) ∙ sym (none_open true l 32 none);
    charges = h.resources.charges;
  };
  second = record { runs = h.second.runs; reclaimable = h.second.reclaimable; continues = h.second.continues };
  outputs = h.outputs;
  inputs = h.inputs;
  controllers = h.controllers;
  sound = withholding_keeps l first h.sound;
}

-- no reset entry came yet
pub withholding_follows : (t : Tables) (l : Account) (word : ℕ) → StandsFor t l → t.started ≡ false → word ≡ first_high true
    → Follows true t (record t { withheld = true; high = word }) (cond (is_some l.latest) None (Some (after_withholding l)))
withholding_follows t l word h first e = go l.latest refl
  where
    go : (o : Option ResetEntry) → l.latest ≡ o → Follows true t (record t { withheld = true; high = word }) (cond (is_some o) None (Some (after_withholding l)))
    go None none = (refl, withholding_stands t l word h none e)
    go (Some r) some = let is = subst (ShowsReset t.started t.manager t.nodes) some h.latest in absurd (false≢true (sym first ∙ is.0))

-- one came
pub too_late_follows : (t : Tables) (l : Account) → StandsFor t l → t.started ≡ true → Follows false t t (cond (is_some l.latest) None (Some (after_withholding l)))
too_late_follows t l h late = go l.latest refl
  where
    go : (o : Option ResetEntry) → l.latest ≡ o → Follows false t t (cond (is_some o) None (Some (after_withholding l)))
    go None none = let is = subst (ShowsReset t.started t.manager t.nodes) none h.latest in absurd (false≢true (sym is.0 ∙ late))
    go (Some r) some = (refl, refl)
