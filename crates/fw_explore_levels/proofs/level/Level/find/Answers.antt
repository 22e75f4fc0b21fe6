use Rattle.std.proofs.Common.{◌≡◌, ◌<◌, ◌-◌, Bool, true, false, length, get_or, bit_and, sym, ap, subst, ◌∙◌, arith}
use Rattle.std.proofs.lemmas.List.{length-map, get_or_default}
use Rattle.std.proofs.lemmas.Bool.{false≢true}
use Rattle.std.proofs.lemmas.Nat.{and_le_r}
use Rattle.std.specs.List.{All}
use Rattle.fw_explore_levels.specs.Spots.{spotted_in, key_in, hash_of, bucket_of}
use Rattle.fw_explore_levels.proofs.LinkLaws.{IsSought, sought_begins, sought_next, sought_none, spotted_at, spot_at}
use Rattle.fw_explore_levels.proofs.level.Level.find.Goals as goal

not_true : (b : Bool) → b ≡ false → b ≡ true → ⊥
not_true b e f = false≢true (sym e ∙ f)

pub index-head-requires : goal.index-head-requires
index-head-requires c =
    omega (arith, c.self.invariant.some, c.self.inside.heads.ok.0, c.len.ensures, and_le_r c.args.hash (c.len.result - 1))

pub loop-head-init : goal.loop-head-init
loop-head-init c =
    let heads = c.self.inside.heads.items in
    let size : c.len.result ≡ length heads = c.len.ensures ∙ c.self.inside.heads.ok.0 in
    let below : bucket_of (length heads) (hash_of c.args.key.now) < length heads = omega (arith, c.self.invariant.some, and_le_r (hash_of c.args.key.now) (length heads - 1)) in
    let here : bit_and c.args.hash (c.len.result - 1) ≡ bucket_of (length heads) (hash_of c.args.key.now) = ap (λ n. bit_and c.args.hash (n - 1)) size ∙ ap (bucket_of (length heads)) c.requires in
    subst (IsSought c.self.inside.bytes.items (length heads) c.self.inside.spots.items c.args.key.now)
    (ap (λ b. get_or heads b 0) (sym here) ∙ get_or_default heads (bit_and c.args.hash (c.len.result - 1)) 0 c.index-head.result.now (subst (λ b. b < length heads) (sym here) below)
    ∙ sym c.index-head.ensures)
    (sought_begins c.self.inside.bytes.items c.self.inside.spots.items heads c.self.invariant c.args.key.now below)

pub index-spot-requires : goal.index-spot-requires
index-spot-requires c = omega (arith, c.loop-head.invariant.earlier, c.loop-head-test.true, c.self.inside.spots.ok.0)

pub has_key-requires : goal.has_key-requires
has_key-requires c =
    let inside : c.loop-head.head - 1 < length c.self.inside.spots.items = omega (arith, c.loop-head.invariant.earlier, c.loop-head-test.true) in
    let spot = spot_at c.self.inside.bytes.items c.self.inside.spots.items c.self.inside.heads.items (c.loop-head.head - 1) c.index-spot.result.now c.self.invariant inside c.index-spot.ensures in
    record {
      within = omega (arith, ap length c.as_slice.ensures.value, spot.within);
      kept = spot.hash ∙ ap (λ b. hash_of (key_in b c.index-spot.result.now)) (sym c.as_slice.ensures.value);
      hash = c.requires;
    }

pub returns-then-has_key : goal.returns-then-has_key
returns-then-has_key c =
    let spots = c.self.inside.spots.items in
    let place = c.loop-head.head - 1 in
    let inside : place < length spots = omega (arith, c.loop-head.invariant.earlier, c.loop-head-test.true) in
    let there : place < length c.args.self.now = omega (arith, inside, length-map spots (spotted_in c.self.inside.bytes.items), ap length c.self.view_is) in
    let same : key_in c.self.inside.bytes.items c.index-spot.result.now ≡ c.args.key.now = ap (λ b. key_in b c.index-spot.result.now) (sym c.as_slice.ensures.value)
    ∙ c.has_key.ensures.0 c.if-has_key.true in
    (there, λ d. sym (ap (λ x. x.key) (spotted_at c.self.inside.bytes.items spots place c.index-spot.result.now c.args.self.now d there c.index-spot.ensures c.self.view_is)) ∙ same)

pub loop-head-smaller : goal.loop-head-smaller
loop-head-smaller c =
    let inside : c.loop-head.head - 1 < length c.self.inside.spots.items = omega (arith, c.loop-head.invariant.earlier, c.loop-head-test.true) in
    omega (
      arith,
      c.loop-head-test.true,
      (spot_at c.self.inside.bytes.items c.self.inside.spots.items c.self.inside.heads.items
          (c.loop-head.head - 1) c.index-spot.result.now c.self.invariant inside c.index-spot.ensures).earlier,
    )

pub loop-head-preserved : goal.loop-head-preserved
loop-head-preserved c =
    let some : 0 < c.loop-head.head = omega (arith, c.loop-head-test.true) in
    sought_next c.self.inside.bytes.items c.self.inside.spots.items c.self.inside.heads.items c.self.invariant c.args.key.now c.loop-head.head c.index-spot.result.now c.loop-head.invariant some
    c.index-spot.ensures
    (λ e. absurd (not_true c.has_key.result c.if-has_key.false (c.has_key.ensures.1 (ap (λ b. key_in b c.index-spot.result.now) c.as_slice.ensures.value ∙ e))))

pub returns : goal.returns
returns c =
    let none : c.loop-head.head ≡ 0 = omega (arith, c.loop-head-test.false) in
    subst (All (λ x. x.key ≡ c.args.key.now → ⊥)) c.self.view_is
    (sought_none c.self.inside.bytes.items c.self.inside.spots.items c.self.inside.heads.items c.self.invariant c.args.key.now
    (subst (IsSought c.self.inside.bytes.items (length c.self.inside.heads.items) c.self.inside.spots.items c.args.key.now) none c.loop-head.invariant))
