-- Each half step leads the account on.
use Rattle.fw_model_run.proofs.Common.{◌≡◌, ℕ, Option, Some, None, is_some, unwrap_or, refl, ap, sym, subst, ◌∙◌, arith, IsTrue, Entry, Async, ResetEntry, row_of_node, Account, next_account, node_of}
use Rattle.fw_model_run.proofs.Common.{Current, Nothing, Asking, Hearing, Overtaken, Next, Send, Idle, Waiting, Deaf}
use Rattle.fw_model_run.proofs.Common.{Force, Access, IsHeard, offset_of, next, after_next, kind_at, row_of, packet_of, State}
use Rattle.fw_model_run.proofs.Common.{entered, linked_number, directory_of, is_living, head_from, said, asks, half, half_of, after_half, IsGood, IsLatest}
use Rattle.fw_csr.specs.declared.request.Request.{Request as Asked}
use Rattle.fw_model_account.specs.Packets.{asked}
use Rattle.fw_cmp.specs.declared.outcome.Next.TheVariants.{End}
use Rattle.fw_cmp_jobs.specs.Requests.{request_of}
use Rattle.fw_model_controllers.specs.Requests.{Tells, request_to}
use Rattle.fw_model_controllers.proofs.Leads.{turn_tells, turn_leads}
use Rattle.fw_model_run.specs.State.{entered_by}
use Rattle.fw_model_run.proofs.Buses.{linked_at}
use Rattle.fw_model_run.proofs.Hears.{heard_of, half_hears}
use Rattle.fw_model_run.proofs.Turns.{living_linked, same_packet}

-- what an entry, or none, makes of the account
abbrev pub NextIs : Account → Option Entry → Account → Type 0
NextIs l None m = m ≡ l
NextIs l (Some e) m = next_account l e ≡ Some m

-- if there is an account with the entry, it is entered
pub entered_next : (l m : Account) (e : Entry) → next_account l e ≡ Some m → NextIs l (Some e) (entered l e)
entered_next l m e leads = leads ∙ ap (λ x. Some x) (sym (ap (λ o. unwrap_or o l) leads))

-- ---- a controller's device on the bus

pub record IsLinked (s : State) (d : ℕ) : Type 0 where
  pub entry : ResetEntry
  pub is : s.account.latest ≡ Some entry
  pub shows : IsLatest (Some entry) s.declared s.account
  pub number : ℕ
  pub linked : linked_number (Some entry) d ≡ Some number

pub linked_of : (s : State) (d : ℕ) → IsGood s → IsTrue (is_some (linked_number s.account.latest d)) → IsLinked s d
linked_of s d g on = of_latest s.account.latest refl on g.latest
  where
    of_number : (e : ResetEntry) → s.account.latest ≡ Some e → IsLatest (Some e) s.declared s.account → (o : Option ℕ) → linked_number (Some e) d ≡ o → IsTrue (is_some o) → IsLinked s d
    of_number e is h None f on = absurd (grind (arith, on))
    of_number e is h (Some n) f on = record { entry = e; is = is; shows = h; number = n; linked = f }

    of_latest : (o : Option ResetEntry) → s.account.latest ≡ o → IsTrue (is_some (linked_number o d)) → IsLatest o s.declared s.account → IsLinked s d
    of_latest None is on h = absurd (grind (arith, on))
    of_latest (Some e) is on h = of_number e is h (linked_number (Some e) d) refl on

pub own_row : (s : State) (d : ℕ) → (x : IsLinked s d) → row_of_node s.account.latest (node_of s.account.latest d) ≡ Some (row_of d (kind_at s.declared.kinds d))
own_row s d x = subst (λ o. row_of_node o (node_of o d) ≡ Some (row_of d (kind_at s.declared.kinds d))) (sym x.is) (linked_at s x.entry d x.number x.shows.1 x.linked)

-- ---- no request is outstanding

turn_next : (s : State) (d : ℕ) → IsGood s → IsLinked s d → IsHeard (s.controllers d).current → NextIs s.account (asks s d).says (entered_by s.account (asks s d).says)
turn_next s d g x heard = go (next s.clock.cycle (directory_of s) (s.controllers d)) refl
  where
    tells : Tells (directory_of s) (next s.clock.cycle (directory_of s) (s.controllers d)) (after_next s.clock.cycle (directory_of s) (s.controllers d)).current
    tells = turn_tells s.clock.cycle (directory_of s) (s.controllers d) (g.reclaims.step.fits d) (g.reclaims.step.goes_on d) heard

    goes : (to : ℕ) (q : Asked) (a : Access) → q ≡ request_of a → next_account s.account (Async (packet_of (head_from s d to) q)) ≡ Some (asked d (request_to to a) s.account)
    goes to q a same =
        ap (λ p. next_account s.account (Async p)) (ap (packet_of (head_from s d to)) same ∙ same_packet (head_from s d to) (offset_of a.target) a.swap)
        ∙ turn_leads (directory_of s) s.account s.controllers (node_of s.account.latest d) to (row_of d (kind_at s.declared.kinds d)) a g.reclaims.step heard (own_row s d x)

    Writes : Next → Type 0
    Writes y = NextIs s.account (said s d y) (entered_by s.account (said s d y))

    go : (y : Next) → next s.clock.cycle (directory_of s) (s.controllers d) ≡ y → Writes (next s.clock.cycle (directory_of s) (s.controllers d))
    go (Send to q) f = let w = tells.sent to q f in subst Writes (sym f) (entered_next s.account _ (Async (packet_of (head_from s d to) q)) (goes to q w.0 w.1))
    go (End i o) f = subst Writes (sym f) refl
    go Idle f = subst Writes (sym f) refl
    go (Waiting until) f = subst Writes (sym f) refl
    go (Deaf until) f = subst Writes (sym f) refl
    go Force f = subst Writes (sym f) refl

-- ---- the half step

pub half_next : (s : State) (d : ℕ) → IsGood s → IsTrue (is_living s d) → NextIs s.account (half s d).says (after_half s d).account
half_next s d g lives = go (s.controllers d).current refl
  where
    Writes : Current → Type 0
    Writes c = NextIs s.account (half_of s d c).says (entered_by s.account (half_of s d c).says)

    rests : (c : Current) → (s.controllers d).current ≡ c → IsHeard c → half_of s d c ≡ asks s d → Writes (s.controllers d).current
    rests c e heard is = subst Writes (sym e) (subst (λ h. NextIs s.account h.says (entered_by s.account h.says)) (sym is)
        (turn_next s d g (linked_of s d g (living_linked s d lives)) (subst IsHeard (sym e) heard)))

    go : (c : Current) → (s.controllers d).current ≡ c → Writes (s.controllers d).current
    go Nothing e = rests Nothing e tt refl
    go (Asking j stage) e = rests (Asking j stage) e tt refl
    go (Overtaken i o) e = rests (Overtaken i o) e tt refl
    go (Hearing j stage) e =
        let x = heard_of s d j stage g lives e in
        let h = half_hears s d j stage g e x in
        subst (λ y. NextIs s.account y.says (entered_by s.account y.says)) (sym h.half_is) (entered_next s.account _ (Async h.response.packet) h.leads)
