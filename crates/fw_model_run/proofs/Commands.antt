-- Bytes that are written to FCP_COMMAND are a command, or they are none; and what followed at the node follows in the run.
use Rattle.fw_model_run.proofs.Common.{◌≡◌, ◌⊎◌, inl, inr, ℕ, ◌+◌, ◌*◌, ◌/◌, ◌<◌, ◌≤◌, ◌^◌, ◌&&◌, not, nat_lt, nat_le}
use Rattle.fw_model_run.proofs.Common.{cond, List, [], ◌∷◌, length, Bool, true, false, Option, Some, None, refl, ap, sym}
use Rattle.fw_model_run.proofs.Common.{subst, ◌∙◌, arith, IsTrue, nat_tests, same_Some, Request, Frame, spelling, node_of, DeckState, FrameWrite, DeskRelations, request_of, State, has_deck}
use Rattle.std.proofs.Common.{◌%◌}
use Rattle.std.proofs.Common.{drop}
use Rattle.fw_fcp.specs.Frames.{Fits, is_reserved}
use Rattle.fw_tape.specs.Desks.{VendorRelation}
use Rattle.fw_tape.specs.declared.row.TapeRow.TheVariants.{Eject, Enter, TransportState, TimeCode}
use Rattle.fw_avc.specs.declared.row.UnitRow.TheVariants.{UnitInfo, SubunitInfo, PlugInfo, SetPower, PowerState, VendorDependent}
use Rattle.fw_avc.specs.Replies.{Ruling, Repeat, CarryOut, OfUnit, OfTape, Makes, IsResponse, ruling, unit_after}
use Rattle.fw_avc.specs.State.{UnitState}
use Rattle.fw_node.specs.Fcp.{command_bytes, IsCommand, HasFollowed}
use Rattle.fw_node.specs.State.{NodeState}
use Rattle.fw_model_run.specs.Decks.{after_command}
use Rattle.fw_model_run.specs.Desks.{AnyVendor}
use Rattle.fw_model_run.specs.Units.{HasDeck, FollowsInRun}
use Rattle.fw_model_run.proofs.Turns.{update_new}

-- ---- whether bytes are a command

-- the frame that three bytes and more are
abbrev frame_in : ℕ → ℕ → ℕ → List ℕ → Frame
frame_in a b c rest = record { code = a; kind = b / 8; id = b % 8; opcode = c; operands = rest }

abbrev is_command : ℕ → ℕ → List ℕ → Bool
is_command a b rest = nat_lt a 8 && not (is_reserved a) && nat_lt b 256 && nat_le (length rest) 509

abbrev Spells : List ℕ → Frame → Type 0
Spells bytes f = (bytes ≡ spelling f) × Fits f × (length f.operands ≤ 509) × (f.code < 8)

abbrev IsDecided : List ℕ → Type 0
IsDecided bytes = ((f : Frame) × Spells bytes f) ⊎ ((f : Frame) → Spells bytes f → ⊥)

reserved_is : (a : ℕ) (rest : List ℕ) (b : ℕ) → is_command a b rest ≡ true → is_reserved a ≡ false
reserved_is a rest b t = grind (arith, nat_tests, t)

decided : (bytes : List ℕ) → IsDecided bytes
decided [] = inr (λ f x. let e = ap (λ (xs : List ℕ). length xs) x.0 in absurd (omega (arith, e)))
decided (a ∷ []) = inr (λ f x. let e = ap (λ (xs : List ℕ). length xs) x.0 in absurd (omega (arith, e)))
decided (a ∷ b ∷ []) = inr (λ f x. let e = ap (λ (xs : List ℕ). length xs) x.0 in absurd (omega (arith, e)))
decided (a ∷ b ∷ c ∷ rest) = go (is_command a b rest) refl
  where
    heads : (f : Frame) → a ∷ b ∷ c ∷ rest ≡ spelling f → (a ≡ f.code) × (b ≡ f.kind * 8 + f.id) × (rest ≡ f.operands)
    heads f e =
        let first = ap (λ (xs : List ℕ). elim xs as (λ _. ℕ) [ [] ↦ 0 | y ∷ ys ↦ y ]) e in
        let second = ap (λ (xs : List ℕ). elim (drop 1 xs) as (λ _. ℕ) [ [] ↦ 0 | y ∷ ys ↦ y ]) e in
        (omega (arith, first), omega (arith, second), ap (λ (xs : List ℕ). drop 3 xs) e)

    go : (t : Bool) → is_command a b rest ≡ t → IsDecided (a ∷ b ∷ c ∷ rest)
    go true t =
        let code : a < 8 = grind (arith, nat_tests, t) in
        let known : is_reserved a ≡ false = reserved_is a rest b t in
        let low : b < 256 = grind (arith, nat_tests, t) in
        let few : length rest ≤ 509 = grind (arith, nat_tests, t) in
        let first : a ≡ (0 * 2 ^ 4 + 0) * 2 ^ 4 + a = omega arith in
        let second : b ≡ (0 * 2 ^ 5 + b / 8) * 2 ^ 3 + b % 8 = omega arith in
        inl (frame_in a b c rest, ((λ i. first i ∷ second i ∷ c ∷ rest), record { code = omega (arith, code); known = known; kind = omega (arith, low); id = omega arith }, few, code))
    go false t = inr (λ f x.
        let h = heads f x.0 in
        let fits = x.1 in
        let known : is_reserved a ≡ false = ap is_reserved h.0 ∙ fits.known in
        let code : a < 8 = let less = x.3 in let e = h.0 in omega (arith, less, e) in
        let low : b < 256 = let kind = fits.kind in let id = fits.id in let e = h.1 in omega (arith, kind, id, e) in
        let few : length rest ≤ 509 = subst (λ (xs : List ℕ). length xs ≤ 509) (sym h.2) x.2 in
        let wrong : is_command a b rest ≡ true = grind (arith, nat_tests, known, code, low, few) in
        let clash : true ≡ false = sym wrong ∙ t in cc clash)

-- a request writes a command, or it does not
pub command_or_none : (r : Request) → ((f : Frame) × IsCommand (Some r) f) ⊎ ((f : Frame) → IsCommand (Some r) f → ⊥)
command_or_none r = go (command_bytes r) refl
  where
    go : (o : Option (List ℕ)) → command_bytes r ≡ o → ((f : Frame) × IsCommand (Some r) f) ⊎ ((f : Frame) → IsCommand (Some r) f → ⊥)
    go None e = inr (λ f x. let wrong : None ≡ Some (spelling f) = sym e ∙ x.written in cc wrong)
    go (Some bytes) e = of (decided bytes)
      where
        of : IsDecided bytes → ((f : Frame) × IsCommand (Some r) f) ⊎ ((f : Frame) → IsCommand (Some r) f → ⊥)
        of (inl x) = inl (x.0, record { written = e ∙ ap (λ (xs : List ℕ). Some xs) x.1.0; fits = x.1.1; size = x.1.2; command = x.1.3 })
        of (inr never) = inr (λ f x. never f (same_Some bytes (spelling f) (sym e ∙ x.written), x.fits, x.size, x.command))

-- ---- what a desk allows, any desk allows

made_any : (V : VendorRelation) (asked xs : List ℕ) → Makes V asked xs → Makes AnyVendor asked xs
made_any V [] [] f = tt
made_any V [] (x ∷ xs) f = absurd f
made_any V (a ∷ asked) [] f = absurd f
made_any V (a ∷ asked) (x ∷ xs) f = (tt, made_any V asked xs f.1)

pub response_any : (V : VendorRelation) (u : UnitState) (f : Frame) (rule : Ruling) (r : Frame) → IsResponse V u f rule r → IsResponse AnyVendor u f rule r
response_any V u f (Repeat code) r a = a
response_any V u f (CarryOut (OfUnit UnitInfo)) r a = a
response_any V u f (CarryOut (OfUnit SubunitInfo)) r a = a
response_any V u f (CarryOut (OfUnit PlugInfo)) r a = a
response_any V u f (CarryOut (OfUnit (SetPower on))) r a = a
response_any V u f (CarryOut (OfUnit PowerState)) r a = a
response_any V u f (CarryOut (OfUnit VendorDependent)) r a = record { bytes = a.bytes; made = made_any V (drop 3 f.operands) a.bytes a.made; frame = a.frame }
response_any V u f (CarryOut (OfTape TransportState)) r a = a
response_any V u f (CarryOut (OfTape TimeCode)) r a = a
response_any V u f (CarryOut (OfTape Eject)) r a = a
response_any V u f (CarryOut (OfTape (Enter t))) r a = a

-- ---- what follows at a node

pub follows_in_run : (D : DeskRelations) (s : State) (w : FrameWrite) (before after : NodeState) → HasDeck before (has_deck s w.to) (s.decks w.to)
    → HasFollowed D.vendor (node_of s.account.latest w.from) (Some (request_of w)) before after → FollowsInRun D s w after
follows_in_run D s w before after deck h = go (has_deck s w.to) refl
  where
    k : DeckState
    k = s.decks w.to

    from : ℕ
    from = node_of s.account.latest w.from

    ignored : after ≡ before → (IsTrue (has_deck s w.to) → (f : Frame) → IsCommand (Some (request_of w)) f → ⊥) → FollowsInRun D s w after
    ignored same none = record { obeyed = None; followed = none; given = tt; deck = subst (λ (n : NodeState). HasDeck n (has_deck s w.to) k) (sym same) deck }

    carried : (b : Bool) → has_deck s w.to ≡ b → b ≡ true → (f : Frame) → IsCommand (Some (request_of w)) f → FollowsInRun D s w after
    carried false has there f x = let wrong : false ≡ true = there in cc wrong
    carried true has there f x =
        let unit : before.unit ≡ Some k.unit = deck.unit ∙ ap (λ b. cond b (Some k.unit) None) has in
        let y = h.command f k.unit x unit in
        let now : HasDeck after (has_deck s w.to) (after_command from f y.response k) = record {
          unit = ap (λ (n : NodeState). n.unit) y.node ∙ sym (ap (λ b. cond b (Some (unit_after k.unit from f)) None) has);
          waiting = ap (λ (n : NodeState). n.waiting) y.node ∙ sym (ap (λ b. cond b (Some (from, y.response)) None) has);
        } in
        record {
          obeyed = Some (record { unit = k.unit; command = f; response = y.response });
          followed = (has, x, refl, response_any D.vendor k.unit f (ruling k.unit f) y.response y.answers, y.sendable);
          given = y.answers;
          deck = subst (λ j. HasDeck after (has_deck s w.to) j) (sym (update_new s.decks w.to (after_command from f y.response k))) now;
        }

    go : (b : Bool) → has_deck s w.to ≡ b → FollowsInRun D s w after
    go false has = ignored (h.no_unit (deck.unit ∙ ap (λ b. cond b (Some k.unit) None) has)) (λ on. let wrong : true ≡ false = sym on ∙ has in cc wrong)
    go true has = of (command_or_none (request_of w))
      where
        of : ((f : Frame) × IsCommand (Some (request_of w)) f) ⊎ ((f : Frame) → IsCommand (Some (request_of w)) f → ⊥) → FollowsInRun D s w after
        of (inl x) = carried (has_deck s w.to) refl has x.0 x.1
        of (inr never) = ignored (h.ignored never) (λ on. never)
