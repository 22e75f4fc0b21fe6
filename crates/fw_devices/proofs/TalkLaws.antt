-- The table of those that talk is filled device by device.
use Rattle.fw_devices.proofs.Common.{◌≡◌, inl, inr, ℕ, ◌+◌, ◌<◌, ◌≤◌, List, length, slice_set, Option, Some, None, refl, ap, sym, subst, ◌∙◌, arith, cases_eq, cases_lt, NodeState, node_at}
use Rattle.std.proofs.Common.{◌≢◌, ◌⊎◌, replicate, slice_index_or, is_some, IsTrue}
use Rattle.std.proofs.lemmas.List.{get_or-replicate, get_or_past, get_or-set_other, get_or-set_same, length-set}
use Rattle.std.proofs.lemmas.Option.{same_Some}
use Rattle.fw_node.specs.Streams.{talking_on}
use Rattle.fw_devices.specs.Streams.{AreSilentFrom, AreTalkers}

-- at first it has none
empty_at : (channel : ℕ) → (channel < 64) ⊎ (64 ≤ channel) → slice_index_or (replicate 64 None) channel None ≡ (let o : Option ℕ = None in o)
empty_at channel (inl lt) = get_or-replicate 64 channel None None lt
empty_at channel (inr past) = get_or_past (replicate 64 None) channel None past

pub none_silent : AreSilentFrom 0 (replicate 64 None)
none_silent = record { each = λ channel few. empty_at channel (cases_lt channel 64) }

pub talkers_none : (nodes : List NodeState) → AreTalkers 0 nodes (replicate 64 None)
talkers_none nodes = record {
  size = refl;
  talk = λ channel d e. let no : ⊥ = cc (empty_at channel (cases_lt channel 64), e) in absurd no;
  all = λ d channel lt is. absurd (omega (arith, lt));
}

-- a device that does not talk leaves it as it is
pub talkers_skip : (i : ℕ) (nodes : List NodeState) (talkers : List (Option ℕ)) → talking_on (node_at nodes i) ≡ None → AreTalkers i nodes talkers
    → AreTalkers (i + 1) nodes talkers
talkers_skip i nodes talkers silent are = record {
  size = are.size;
  talk = λ channel d e. let x = are.talk channel d e in (let lt = x.0 in omega (arith, lt), x.1);
  all = λ d channel lt is. go d channel lt is (cases_eq d i);
}
  where
    go : (d channel : ℕ) → d < i + 1 → talking_on (node_at nodes d) ≡ Some channel → (d ≡ i) ⊎ (d ≢ i) → IsTrue (is_some (slice_index_or talkers channel None))
    go d channel lt is (inl e) = let no : ⊥ = cc (sym silent ∙ (ap (λ k. talking_on (node_at nodes k)) (sym e) ∙ is)) in absurd no
    go d channel lt is (inr ne) = are.all d channel (omega (arith, lt, ne)) is

-- one that talks is entered
pub talkers_more : (i at : ℕ) (nodes : List NodeState) (talkers : List (Option ℕ)) → at < 64 → talking_on (node_at nodes i) ≡ Some at
    → AreTalkers i nodes talkers
    → AreTalkers (i + 1) nodes (slice_set talkers at (Some i))
talkers_more i at nodes talkers low on are = record {
  size = length-set talkers at (Some i) ∙ are.size;
  talk = λ channel d e. talk channel d e (cases_eq channel at);
  all = λ d channel lt is. all d channel lt is (cases_eq channel at);
}
  where
    within : at < length talkers
    within = let size = are.size in omega (arith, low, size)

    here : slice_index_or (slice_set talkers at (Some i)) at None ≡ Some i
    here = get_or-set_same talkers at (Some i) None within

    elsewhere : (channel : ℕ) → channel ≢ at → slice_index_or (slice_set talkers at (Some i)) channel None ≡ slice_index_or talkers channel None
    elsewhere channel ne = get_or-set_other talkers at channel (Some i) None ne

    talk : (channel d : ℕ) → slice_index_or (slice_set talkers at (Some i)) channel None ≡ Some d → (channel ≡ at) ⊎ (channel ≢ at)
        → (d < i + 1) × (talking_on (node_at nodes d) ≡ Some channel)
    talk channel d e (inl same) =
        let is : i ≡ d = same_Some i d (sym here ∙ (ap (λ k. slice_index_or (slice_set talkers at (Some i)) k None) (sym same) ∙ e)) in
        (omega (arith, is), ap (λ k. talking_on (node_at nodes k)) (sym is) ∙ (on ∙ ap Some (sym same)))
    talk channel d e (inr ne) = let x = are.talk channel d (sym (elsewhere channel ne) ∙ e) in (let lt = x.0 in omega (arith, lt), x.1)

    all : (d channel : ℕ) → d < i + 1 → talking_on (node_at nodes d) ≡ Some channel → (channel ≡ at) ⊎ (channel ≢ at)
        → IsTrue (is_some (slice_index_or (slice_set talkers at (Some i)) channel None))
    all d channel lt is (inl same) = ap (λ k. is_some (slice_index_or (slice_set talkers at (Some i)) k None)) same ∙ ap is_some here
    all d channel lt is (inr ne) = ap is_some (elsewhere channel ne) ∙ old (cases_eq d i)
      where
        old : (d ≡ i) ⊎ (d ≢ i) → IsTrue (is_some (slice_index_or talkers channel None))
        old (inl e) = absurd (ne (same_Some channel at (sym is ∙ (ap (λ k. talking_on (node_at nodes k)) e ∙ on))))
        old (inr apart) = are.all d channel (omega (arith, lt, apart)) is

-- with the last device it is whole
pub talkers_all : (i : ℕ) (nodes : List NodeState) (talkers : List (Option ℕ)) → length nodes ≤ i → i ≤ length nodes → AreTalkers i nodes talkers
    → AreTalkers (length nodes) nodes talkers
talkers_all i nodes talkers past low are = let e : i ≡ length nodes = omega (arith, past, low) in subst (λ n. AreTalkers n nodes talkers) e are
