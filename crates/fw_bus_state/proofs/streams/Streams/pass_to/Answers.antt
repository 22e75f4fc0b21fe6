use Rattle.fw_bus_state.proofs.Common.{◌≡◌, ◌<◌, ◌≤◌, ◌∙◌, ap, length, map, slice_set, sym, subst, take, arith, List, ℕ, passed, Network, node_at, count_at, counted_on}
use Rattle.fw_bus_state.specs.Streaming.{AreStillFrom, counted_for}
use Rattle.fw_bus_state.proofs.Counts.{counted_more, counted_size}
use Rattle.fw_bus_state.proofs.Moving.{following_at, after_may, after_size, moved_more}
use Rattle.fw_bus_state.proofs.Still.{still_after, still_counts, still_devices}
use Rattle.fw_bus_state.proofs.streams.Streams.pass_to.Goals as goal

pub counted-requires-clause-declared : goal.counted-requires-clause-declared
counted-requires-clause-declared c =
    let d = c.loop-device.device in
    let nodes = c.args.devices.now.nodes in
    let size = ap (λ (n : Network). length n.nodes) c.loop-device.invariant.tapes ∙ after_size (passed c.args.cycles) nodes d in
    let test = c.loop-device-test.true in
    let few = c.requires.still.few in
    omega (arith, test, few, size)

pub counted-requires-clause-tape : goal.counted-requires-clause-tape
counted-requires-clause-tape c =
    let d = c.loop-device.device in
    let nodes = c.args.devices.now.nodes in
    let low : d < length nodes = let test = c.loop-device-test.true in let few = c.requires.still.few in omega (arith, test, few) in
    after_may c.args.cycles nodes d c.args.devices.now c.loop-device.devices c.loop-device.invariant.tapes low (c.requires.tapes d low)

pub loop-device-preserved : goal.loop-device-preserved
loop-device-preserved c =
    let d = c.loop-device.device in
    let counts = c.loop-device.self-inside.counts in
    let before = c.args.devices.now in
    let nodes = before.nodes in
    let now = c.loop-device.devices in
    let low : d < length nodes = let test = c.loop-device-test.true in let few = c.requires.still.few in omega (arith, test, few) in
    let few : length nodes ≤ length c.self.inside.counts = let most = c.requires.room in let size = c.self.told in omega (arith, most, size) in
    let here : node_at now.nodes d ≡ node_at nodes d =
    ap (λ (n : Network). node_at n.nodes d) c.loop-device.invariant.tapes ∙ following_at (passed c.args.cycles) nodes d low in
    let value : c.counted.result ≡ counted_for c.args.cycles (node_at nodes d) (count_at counts d) =
    c.counted.ensures.count ∙ (λ i. counted_for c.args.cycles (here i) (count_at counts (c.from.ensures i))) in
    record {
      counts = ap (λ j. slice_set counts j c.counted.result) c.from-in-loop-device.ensures
          ∙ counted_more c.args.cycles nodes c.self.inside.counts counts d c.counted.result low few c.loop-device.invariant.counts value;
      tapes = c.counted.ensures.moved ∙ moved_more (passed c.args.cycles) before now d low c.loop-device.invariant.tapes;
    }

pub invariant_of-self : goal.invariant_of-self
invariant_of-self c =
    ap (λ ks. length ks) c.loop-device.invariant.counts
    ∙ (counted_size c.args.cycles (take c.loop-device.device c.args.devices.now.nodes) c.self.inside.counts ∙ c.self.told)

pub returns : goal.returns
returns c =
    let before = c.args.devices.now in
    let nodes = before.nodes in
    let own = c.args.self.now in
    let d = c.loop-device.device in
    let past : c.args.end ≤ d = let test = c.loop-device-test.false in omega (arith, test) in
    let counts : c.loop-device.self-inside.counts ≡ counted_on c.args.cycles nodes own =
    c.loop-device.invariant.counts ∙ (ap (λ ks. counted_on c.args.cycles (take d nodes) ks) c.self.view_is ∙ still_counts c.args.cycles d nodes own past c.requires.still) in
    let tapes = c.loop-device.invariant.tapes ∙ still_devices c.args.cycles d before own past c.requires.still in
    let room : length nodes ≤ length own =
    let most = c.requires.room in let size = c.self.told in let same = ap (λ (ks : List ℕ). length ks) c.self.view_is in omega (arith, most, size, same) in
    record {
      counts = counts;
      tapes = tapes;
      still = subst (λ (n : Network). AreStillFrom c.args.end n.nodes c.loop-device.self-inside.counts) (sym tapes)
          (subst (λ (ks : List ℕ). AreStillFrom c.args.end (map (passed c.args.cycles) nodes) ks) (sym counts) (still_after c.args.cycles c.args.end nodes own room c.requires.still));
    }
