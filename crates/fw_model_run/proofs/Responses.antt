-- What a node answers to a controller's request, and to the script's, is the account's word.
use Rattle.fw_model_run.proofs.Common.{◌≡◌, ℕ, ◌+◌, ◌-◌, ◌^◌, ◌<◌, ◌==◌, nat_le, length, cond, Bool, true, false, Option, Some, None, option_map, refl, ap, sym, subst, ◌∙◌, arith, to_be_bytes, w32}
use Rattle.fw_model_run.proofs.Common.{nat_tests, same_Some, quadlet_at, LockReply, Reply, Swap, Async, ResetEntry}
use Rattle.fw_model_run.proofs.Common.{NodeRow, row_of_node, device_of_id, Account, Register, word_of, register_of, node_of}
use Rattle.fw_model_run.proofs.Common.{Hearing, Job, Target, Stage, offset_of, procedure_head, State, number_in, directory_of, IsAnswered, IsGood, IsLatest}
use Rattle.std.proofs.lemmas.Nat.{from_be_bytes-to_be_bytes_4}
use Rattle.fw_log_entry.specs.Network.{first_id, row_of_id}
use Rattle.fw_model_account.specs.Account.{Request}
use Rattle.fw_cmp_jobs.specs.declared.request.Target.TheVariants.{OutputPlug, InputPlug, Channels, BandwidthAvailable}
use Rattle.fw_cmp_jobs.specs.Requests.{swap_of}
use Rattle.fw_model_controllers.specs.Requests.{IsDevice, IsNodeOf, request_to, outstanding_of, requested, requested_of}
use Rattle.fw_model_controllers.proofs.Addressees.{node_is}
use Rattle.fw_model_run.specs.Headline.{shown_in, IsShownWord}
use Rattle.fw_model_run.proofs.Directories.{told}
use Rattle.fw_model_run.proofs.Hears.{Responds, Heard, HalfHears, reply_heard}
use Rattle.fw_model_run.proofs.Leads.{IsLinked, own_row}
use Rattle.fw_model_run.proofs.Watched.{reply_watched}
use Rattle.fw_model_run.proofs.Words.{answers_word, register_below}

-- ---- nodes

-- the device of a controller's own node
pub own_device : (s : State) (d : ℕ) → IsLinked s d → device_of_id s.account.latest (first_id + node_of s.account.latest d) ≡ Some d
own_device s d x = ap (option_map (λ (r : NodeRow). r.device)) (by_id s.account.latest (node_of s.account.latest d) ∙ own_row s d x)
  where
    by_id : (o : Option ResetEntry) (n : ℕ) → row_of_id o (first_id + n) ≡ row_of_node o n
    by_id o n =
        let t : nat_le first_id (first_id + n) ≡ true = grind (arith, nat_tests) in
        let e : first_id + n - first_id ≡ n = omega arith in
        rw (t, e) refl

-- the device of the node that a request goes to
pub record IsNode (s : State) (n : ℕ) : Type 0 where
  pub device : ℕ
  pub number : number_in s.account.latest device ≡ Some n

pub node_of_target : (s : State) (e : ResetEntry) (t : Target) (n : ℕ) → s.account.latest ≡ Some e → IsLatest (Some e) s.declared s.account → IsNodeOf s.account.latest t n → IsNode s n
node_of_target s e t n is h node = go t (subst (λ o. IsNodeOf o t n) is node)
  where
    of_row : (d : ℕ) → IsDevice (Some e) d n → IsNode s n
    of_row d w = record { device = w.0.device; number = ap (λ o. number_in o w.0.device) is ∙ (h.1.rows n w.0 w.1).1 }

    of_manager : e.manager ≡ Some n → IsNode s n
    of_manager x = let w = h.1.manager n x in record { device = w.0; number = ap (λ o. number_in o w.0) is ∙ w.1 }

    go : (t : Target) → IsNodeOf (Some e) t n → IsNode s n
    go (OutputPlug p) w = of_row p.device w
    go (InputPlug p) w = of_row p.device w
    go (Channels base) w = of_manager w
    go BandwidthAvailable w = of_manager w

pub heard_node : (s : State) (d : ℕ) (j : Job) (stage : Stage) → IsGood s → (x : Heard s d j stage) → IsNode s x.to
heard_node s d j stage g x = node_of_target s x.entry x.target x.to x.is x.shows (node_is s.account s.clock.cycle (directory_of s) x.target x.to (told s x.entry x.is x.shows.1 g.time.second) x.goes)

-- ---- the word that a response to a controller shows

-- if the reply is the account's word, so is what the response shows
shows_reply : (l : Account) (source to : ℕ) (w : Option Swap) (r : Reply) (offset : ℕ) (x : Responds to source offset w r)
    → ((c : ℕ) (request : Request) (register : Register) → device_of_id l.latest (first_id + source) ≡ Some c → l.outstanding c ≡ Some request
    → register_of l.latest request.target request.address ≡ Some register → (r.value ≡ word_of l register) × (r.value < 2 ^ 32))
    → IsShownWord l (shown_in x.packet)
shows_reply l source to None r offset x word = subst (λ p. IsShownWord l (shown_in p)) (sym x.is) (go (r.rcode == 0))
  where
    go : (b : Bool) → IsShownWord l (cond b (Some (first_id + source, r.value)) None)
    go true = λ c request register own waits at. (word c request register own waits at).0
    go false = tt
shows_reply l source to (Some swap) r offset x word = subst (λ p. IsShownWord l (shown_in p)) (sym x.is.1) (go (r.rcode == 0) refl)
  where
    back : r.value < 2 ^ 32 → quadlet_at (to_be_bytes w32 r.value) 0 ≡ r.value
    back lt = from_be_bytes-to_be_bytes_4 r.value lt

    sized : (b : Bool) → (r.rcode ≡ 0) → IsShownWord l (cond b (Some (first_id + source, quadlet_at x.is.0 0)) None)
    sized true zero = λ c request register own waits at. let y = word c request register own waits at in ap (λ bytes. quadlet_at bytes 0) (x.is.2 zero) ∙ (back y.1 ∙ y.0)
    sized false zero = tt

    go : (b : Bool) → (r.rcode == 0) ≡ b → IsShownWord l (shown_in (LockReply (procedure_head source to) r.rcode 2 x.is.0))
    go true t = let zero : r.rcode ≡ 0 = grind (arith, nat_tests) in rw t (sized (length x.is.0 == 4) zero)
    go false t = rw t tt

pub heard_shows : (s : State) (d : ℕ) (j : Job) (stage : Stage) → IsGood s → IsLinked s d → (s.controllers d).current ≡ Hearing j stage → (x : Heard s d j stage) → (h : HalfHears s d j stage x)
    → IsAnswered s.account (Async h.response.packet)
heard_shows s d j stage g own current x h = (
  shows_reply s.account (node_of s.account.latest d) x.to (swap_of j stage) r (offset_of x.target) h.response word,
  reply_watched s node.device x.to (node_of s.account.latest d) d (swap_of j stage) (offset_of x.target) h.response g node.number (own_device s d own) asked,
)
  where
    r : Reply
    r = reply_heard s d j stage x

    node : IsNode s x.to
    node = heard_node s d j stage g x

    asked : s.account.outstanding d ≡ Some (request_to x.to (record { target = x.target; swap = swap_of j stage }))
    asked =
        g.reclaims.step.requests d
        ∙ (ap (outstanding_of (directory_of s)) current ∙ (ap (requested (directory_of s)) h.access ∙ ap (λ o. requested_of o (record { target = x.target; swap = swap_of j stage })) x.goes))

    word : (c : ℕ) (request : Request) (register : Register) → device_of_id s.account.latest (first_id + node_of s.account.latest d) ≡ Some c → s.account.outstanding c ≡ Some request
        → register_of s.account.latest request.target request.address ≡ Some register → (r.value ≡ word_of s.account register) × (r.value < 2 ^ 32)
    word c request register mine waits at =
        let same : c ≡ d = same_Some c d (sym mine ∙ own_device s d own) in
        let is : request ≡ request_to x.to (record { target = x.target; swap = swap_of j stage }) = same_Some _ _ (sym waits ∙ (ap s.account.outstanding same ∙ asked)) in
        let there : register_of s.account.latest (first_id + x.to) (offset_of x.target) ≡ Some register = ap (λ (q : Request). register_of s.account.latest q.target q.address) (sym is) ∙ at in
        let value : r.value ≡ word_of s.account register = ap (λ (y : Reply). y.value) (answers_word s node.device x.to (offset_of x.target) (swap_of j stage) register g node.number there) in
        (value, subst (λ k. k < 2 ^ 32) (sym value) (register_below s x.to (offset_of x.target) register g there))
