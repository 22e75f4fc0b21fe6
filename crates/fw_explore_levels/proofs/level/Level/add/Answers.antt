use Rattle.std.proofs.Common.{ℕ, List, ◌≡◌, ◌<◌, ◌+◌, ◌-◌, [], ◌∷◌, ◌++◌, length, set, bit_and, refl, sym, ap, subst, ◌∙◌, arith}
use Rattle.std.proofs.lemmas.List.{get_or_default}
use Rattle.std.proofs.lemmas.Nat.{and_le_r}
use Rattle.fw_explore_levels.specs.declared.spot.Spot.{Spot}
use Rattle.fw_explore_levels.specs.Spots.{spotted, AreLinked, hash_of, bucket_of}
use Rattle.fw_explore_levels.proofs.AddLaws.{links_stay, links_added, spotted_stay, spotted_added}
use Rattle.fw_explore_levels.proofs.ResultLaws.{on_ok, on_err}
use Rattle.fw_explore_levels.proofs.level.Level.add.Goals as goal

pub returns-in_err-extend_from_slice-clause-ok : goal.returns-in_err-extend_from_slice-clause-ok
returns-in_err-extend_from_slice-clause-ok c = on_ok c.from_residual.result _ c.from_residual.ensures.0

pub returns-in_err-push-clause-ok : goal.returns-in_err-push-clause-ok
returns-in_err-push-clause-ok c = on_ok c.from_residual-in_err-push.result _ c.from_residual-in_err-push.ensures.0

pub index-requires : goal.index-requires
index-requires c = omega (arith, c.self.invariant.some, c.self.inside.heads.ok.0, c.len-2.ensures, and_le_r c.args.hash (c.len-2.result - 1))

pub index_mut-requires : goal.index_mut-requires
index_mut-requires c = omega (arith, c.self.invariant.some, c.self.inside.heads.ok.0, c.len-2.ensures, and_le_r c.args.hash (c.len-2.result - 1))

pub invariant_of-self : goal.invariant_of-self
invariant_of-self c = subst (λ b. AreLinked b c.self.inside.spots.items c.self.inside.heads.items) (sym c.in_err-extend_from_slice.ensures.items) c.self.invariant

pub returns-in_err-extend_from_slice-clause-err : goal.returns-in_err-extend_from_slice-clause-err
returns-in_err-extend_from_slice-clause-err c =
    on_err c.from_residual.result _ (ap (λ b. spotted b c.self.inside.spots.items) c.in_err-extend_from_slice.ensures.items ∙ c.self.view_is)

pub invariant_of-self-in_err-push : goal.invariant_of-self-in_err-push
invariant_of-self-in_err-push c =
    subst (λ b. AreLinked b c.push.new.self.items c.self.inside.heads.items) (sym c.in_ok-extend_from_slice.ensures.items)
    (subst (λ s. AreLinked (c.self.inside.bytes.items ++ c.args.key.now) s c.self.inside.heads.items) (sym c.in_err-push.ensures.items)
    (links_stay c.self.inside.bytes.items c.self.inside.spots.items c.self.inside.heads.items c.self.invariant c.args.key.now))

pub returns-in_err-push-clause-err : goal.returns-in_err-push-clause-err
returns-in_err-push-clause-err c =
    on_err c.from_residual-in_err-push.result _
    (ap (λ b. spotted b c.push.new.self.items) c.in_ok-extend_from_slice.ensures.items
    ∙ ap (spotted (c.self.inside.bytes.items ++ c.args.key.now)) c.in_err-push.ensures.items
    ∙ spotted_stay c.self.inside.bytes.items c.self.inside.spots.items c.self.inside.heads.items c.self.invariant c.args.key.now ∙ c.self.view_is)

-- the bucket of the new place, and what stands there
bucket_is : (heads : List ℕ) (hash size : ℕ) (key : List ℕ) → size ≡ length heads → hash ≡ hash_of key → bit_and hash (size - 1) ≡ bucket_of (length heads) (hash_of key)
bucket_is heads hash size key e f = ap (λ n. bit_and hash (n - 1)) e ∙ ap (bucket_of (length heads)) f

pub invariant_of-self-2 : goal.invariant_of-self-2
invariant_of-self-2 c =
    let bytes = c.self.inside.bytes.items in
    let spots = c.self.inside.spots.items in
    let heads = c.self.inside.heads.items in
    let b = bit_and c.args.hash (c.len-2.result - 1) in
    let size : c.len-2.result ≡ length heads = c.len-2.ensures ∙ c.self.inside.heads.ok.0 in
    let below : b < length heads = omega (arith, c.self.invariant.some, size, and_le_r c.args.hash (c.len-2.result - 1)) in
    let s : Spot = record { at = c.len-at.result; size = length c.args.key.now; hash = c.args.hash; link = c.index.result.now; step = c.args.step; ways = c.args.ways } in
    let count : c.len-3.result ≡ length spots + 1 = omega (arith, c.len-3.ensures, c.in_ok-push.ensures.len, c.self.inside.spots.ok.0) in
    subst (λ x. AreLinked x c.push.new.self.items (set heads b c.len-3.result)) (sym c.in_ok-extend_from_slice.ensures.items)
    (subst (λ x. AreLinked (bytes ++ c.args.key.now) x (set heads b c.len-3.result)) (sym c.in_ok-push.ensures.items)
    (subst (λ n. AreLinked (bytes ++ c.args.key.now) (spots ++ s ∷ []) (set heads b n)) (sym count)
    (links_added bytes spots heads c.self.invariant c.args.key.now s (c.len-at.ensures
    ∙ c.self.inside.bytes.ok.0) refl c.requires.hash b (bucket_is heads c.args.hash c.len-2.result c.args.key.now size c.requires.hash) below
    (c.index.ensures ∙ get_or_default heads b c.index.result.now 0 below))))

pub returns-clause-ok : goal.returns-clause-ok
returns-clause-ok c =
    let bytes = c.self.inside.bytes.items in
    let spots = c.self.inside.spots.items in
    let heads = c.self.inside.heads.items in
    let b = bit_and c.args.hash (c.len-2.result - 1) in
    let size : c.len-2.result ≡ length heads = c.len-2.ensures ∙ c.self.inside.heads.ok.0 in
    let below : b < length heads = omega (arith, c.self.invariant.some, size, and_le_r c.args.hash (c.len-2.result - 1)) in
    let s : Spot = record { at = c.len-at.result; size = length c.args.key.now; hash = c.args.hash; link = c.index.result.now; step = c.args.step; ways = c.args.ways } in
    ap (λ x. spotted x c.push.new.self.items) c.in_ok-extend_from_slice.ensures.items
    ∙ ap (spotted (bytes ++ c.args.key.now)) c.in_ok-push.ensures.items
    ∙ spotted_added bytes spots heads c.self.invariant c.args.key.now s (c.len-at.ensures ∙ c.self.inside.bytes.ok.0) refl c.requires.hash b
    (bucket_is heads c.args.hash c.len-2.result c.args.key.now size c.requires.hash) below
    (c.index.ensures ∙ get_or_default heads b c.index.result.now 0 below)
    ∙ ap (λ x. x ++ record { key = c.args.key.now; ways = c.args.ways; step = c.args.step } ∷ []) c.self.view_is
