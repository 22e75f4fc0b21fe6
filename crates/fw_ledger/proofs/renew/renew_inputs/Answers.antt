use Rattle.fw_ledger.proofs.Common.{◌≡◌, ◌<◌, ◌-◌, ◌*◌, ◌/◌, ◌%◌, ◌∙◌, ℕ, [], true, nat_lt, get_or, slice_index, sym, ap, arith, nat_tests, is_connected, renewed_seats, no_seats, Seats}
use Rattle.std.proofs.lemmas.List.{get_or_default}
use Rattle.fw_account_tables.specs.declared.tables.Broadcaster.TheVariants.{Nobody}
use Rattle.fw_ledger.proofs.Renewals.{none_renewed, one_renewed, place_of, input_set, seats_set}
use Rattle.fw_ledger.proofs.renew.renew_inputs.Goals as goal

pub loop-device-init : goal.loop-device-init
loop-device-init c = record {
  words = none_renewed ℕ 0 _ c.args.words.now;
  seats = none_renewed Seats no_seats _ c.args.seats.now;
}

pub loop-k-preserved : goal.loop-k-preserved
loop-k-preserved c =
    let k = c.loop-k.k in
    let d = c.loop-device.device in
    let n : ℕ = k - d * 31 in
    let at = place_of d k (omega arith) (omega arith) in
    let low : n < 31 = omega arith in
    let within : nat_lt n c.plugs_of.result ≡ true = grind (arith, nat_tests) in
    let there : nat_lt n (slice_index c.args.now.now d) ≡ true = sym (c.plugs_of.ensures.plugs n low) ∙ within in
    let before = c.args.before.now in
    let now = c.args.now.now in
    let was : get_or c.loop-k.words k 0 ≡ slice_index c.args.words.now k = c.loop-k.invariant.words.left k (omega arith) in
    let had : c.from-had.result ≡ slice_index before d = c.from-had.ensures in
    let shows : c.is_connected-connected.result ≡ is_connected (slice_index c.args.words.now k) = c.is_connected-connected.ensures ∙ ap is_connected was in
    let blank : Seats = record { counts = []; broadcaster = Nobody } in
    record {
      words = one_renewed ℕ 0 _ c.args.words.now c.loop-k.words k c.input_word.result (omega arith)
          (input_set before now d n k (get_or c.loop-k.words k 0) c.from-had.result c.input_word.result at.0 at.1 there had c.input_word.ensures) c.loop-k.invariant.words;
      seats = one_renewed Seats no_seats _ c.args.seats.now c.loop-k.seats k c.clear.new.seats (omega arith)
          (seats_set before now d n k (slice_index c.args.words.now k) c.from-had.result c.is_connected-connected.result
          (get_or c.loop-k.seats k blank) c.clear.new.seats at.0 at.1 there had shows c.clear.ensures
          ∙ ap (λ s. renewed_seats before now (k / 31) (k % 31) (slice_index c.args.words.now k) s) (get_or_default c.loop-k.seats k blank no_seats (omega arith)))
          c.loop-k.invariant.seats;
    }
