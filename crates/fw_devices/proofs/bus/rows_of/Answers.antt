use Rattle.fw_devices.proofs.Common.{false, ◌≡◌, ◌<◌, ◌+◌, ◌++◌, ◌∷◌, [], ◌∙◌, inl, inr, ℕ, List, Option, Some, length, slice_get, arith, ap, sym, subst, cases_lt, length_push, DeviceKind, Relay}
use Rattle.fw_devices.proofs.Common.{NodeRow, NodeState, first_state, number_at, kind_at, kinds_of, row_of}
use Rattle.std.proofs.lemmas.List.{get_or_append_left, get_or_push, get_or_read}
use Rattle.std.proofs.lemmas.Option.{slice_get-get_or}
use Rattle.fw_tree.specs.Numbers.{device_at}
use Rattle.fw_devices.proofs.NetworkLaws.{kind_of_node}
use Rattle.fw_devices.proofs.bus.rows_of.Goals as goal

abbrev kind_of : NodeState → DeviceKind
kind_of n = n.kind

-- the rows of the first nodes, and that of one more
one_more : (number : List (Option ℕ)) (kinds : List DeviceKind) (rows : List NodeRow) (n device : ℕ) → ((d e n : ℕ) → number_at number d ≡ Some n → number_at number e ≡ Some n → d ≡ e)
    → number_at number device ≡ Some n → length rows ≡ n → ((d k : ℕ) → number_at number d ≡ Some k → k < n → slice_get rows k ≡ Some (row_of d (kind_at kinds d)))
    → (d k : ℕ) → number_at number d ≡ Some k → k < n + 1 → slice_get (rows ++ row_of device (kind_at kinds device) ∷ []) k ≡ Some (row_of d (kind_at kinds d))
one_more number kinds rows n device one at size each d k is low =
    let row = row_of device (kind_at kinds device) in
    let long : length (rows ++ row ∷ []) ≡ length rows + 1 = length_push rows row in
    slice_get-get_or (rows ++ row ∷ []) k row (omega arith) ∙ elim (cases_lt k n) [
      | inl less ↦ ap Some (get_or_append_left rows (row ∷ []) row k (omega arith)) ∙ sym (slice_get-get_or rows k row (omega arith)) ∙ each d k is less
      | inr most ↦
          let here : k ≡ n = omega arith in
          let P : ℕ → Type 0 = λ j. number_at number d ≡ Some j in
          let same : device ≡ d = one device d n at (subst P here is) in
          ap Some (get_or_push rows row row k (size ∙ sym here) ∙ ap (λ e. row_of e (kind_at kinds e)) same)
    ]

pub loop-n-preserved : goal.loop-n-preserved
loop-n-preserved c =
    let nodes = c.args.nodes.now in
    let number = c.args.numbering.now.number in
    let device = device_at c.args.devices.now c.loop-n.n in
    let at = c.requires.devices c.loop-n.n c.loop-n-test.true in
    let low = c.requires.declared device c.loop-n.n at in
    let kind : c.kind.result ≡ kind_at (kinds_of nodes) device =
    c.kind.ensures ∙ ap kind_of (get_or_read nodes device c.index-nodes-device.result low c.index-nodes-device.is (first_state Relay 0 0 false)) ∙ sym (kind_of_node nodes device) in
    let row : c.row_of.result ≡ row_of device (kind_at (kinds_of nodes) device) = c.row_of.ensures ∙ ap (row_of device) kind in
    let rows : c.push.new.self ≡ c.loop-n.rows ++ row_of device (kind_at (kinds_of nodes) device) ∷ [] = c.push.ensures ∙ ap (λ r. c.loop-n.rows ++ r ∷ []) row in
    let P : List NodeRow → Type 0 = λ xs. (d k : ℕ) → number_at number d ≡ Some k → k < c.loop-n.n + 1 → slice_get xs k ≡ Some (row_of d (kind_at (kinds_of nodes) d)) in
    record {
      size = ap length c.push.ensures ∙ length_push c.loop-n.rows c.row_of.result ∙ ap (λ k. k + 1) c.loop-n.invariant.size;
      rows = subst P (sym rows) (one_more number (kinds_of nodes) c.loop-n.rows c.loop-n.n device c.requires.nodes.one at c.loop-n.invariant.size c.loop-n.invariant.rows);
    }
