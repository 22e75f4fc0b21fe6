-- Each entry leads from a sound account to a sound one.
use Rattle.fw_model_account.proofs.Common.{ResetEntry, Async, ◌≡◌, ℕ, suc, subst, ◌^◌, ◌<◌, ◌==◌, Bool, true, false, Option, Some, None, is_some, List, [], ◌∷◌, refl, sym, ◌∙◌, arith, cond, nat_tests}
use Rattle.fw_model_account.proofs.Common.{false≢true, Account, has_connection, next_account, IsSound}
use Rattle.fw_log_entry.specs.declared.entry.EventEntry.{EventEntry}
use Rattle.fw_log_entry.specs.declared.entry.Entry.{Entry}
use Rattle.fw_log_entry.specs.declared.entry.Entry.TheVariants.{Reset, Iso, Event, Outcome, Shown, End}
use Rattle.fw_phy.specs.declared.packet.PhyPacket.{PhyPacket}
use Rattle.fw_phy.specs.declared.packet.PhyPacket.TheVariants.{SelfId, SelfIdMore, Config, LinkOn}
use Rattle.fw_phy.specs.Phy as Phy
use Rattle.fw_log_entry.specs.Log.{Fits, ResetFits, RowFits}
use Rattle.std.specs.List.{All}
use Rattle.std.proofs.lemmas.Option.{slice_get_within, get_or_from_slice_get}
use Rattle.std.proofs.Common.{◌++◌}
use Rattle.fw_log_entry.specs.Network.{IsNetwork, speed_of}
use Rattle.fw_model_account.specs.Events.{no_connections, after_reset, after_second, after_death, after_withholding}
use Rattle.fw_model_account.specs.Fold.{no_account, after_event, next_of, account_from, account_of}
use Rattle.fw_terms.proofs.Tables.{sum_to_zero}
use Rattle.fw_model_account.proofs.Network.{not_both}
use Rattle.fw_model_account.proofs.Events.{reset_keeps, second_ends, withholding_keeps}
use Rattle.fw_model_account.proofs.Deaths.{death_keeps}
pub use Rattle.fw_model_account.proofs.Packets.{asked_keeps, ended_keeps, device_below}
use Rattle.fw_model_account.proofs.Packets.{packet_keeps, unchanged}

-- ---- entries

event_keeps : (e : EventEntry) (l m : Account) → IsSound l → after_event e l ≡ Some m → IsSound m
event_keeps e l m s f = go (e.code == 1) (e.code == 2) (e.code == 8) f
  where
    over : (b : Bool) → cond b (Some (after_second l)) None ≡ Some m → IsSound m
    over true g = let same : after_second l ≡ m = cc in rw (← same) (second_ends l s)
    over false g = absurd (not_both None m refl g)

    died : Some (after_death e.device l) ≡ Some m → IsSound m
    died g = let same : after_death e.device l ≡ m = cc in rw (← same) (death_keeps e.device l s)

    withheld : (o : Option ResetEntry) → l.latest ≡ o → cond (is_some o) None (Some (after_withholding l)) ≡ Some m → IsSound m
    withheld None first g = let same : after_withholding l ≡ m = cc in rw (← same) (withholding_keeps l first s)
    withheld (Some r) first g = absurd (not_both None m refl g)

    go : (a b c : Bool) → cond a (cond l.reclaiming (Some (after_second l)) None)
        (cond b (Some (after_death e.device l)) (cond c (cond (is_some l.latest) None (Some (after_withholding l))) (Some l))) ≡ Some m → IsSound m
    go true b c g = over l.reclaiming g
    go false true c g = died g
    go false false true g = withheld l.latest refl g
    go false false false g = unchanged l m s g

-- a reset entry of the log is in range
speeds_fit : (n : ℕ) (ps : List PhyPacket) → All Phy.Fits ps → speed_of n ps < 4
speeds_fit n [] a = omega arith
speeds_fit n (p ∷ ps) a = here p (a 0 p (omega arith)) (speeds_fit n ps (λ k d lt. a (suc k) d (omega arith)))
  where
    here : (q : PhyPacket) → Phy.Fits q → speed_of n ps < 4 → speed_of n (q ∷ ps) < 4
    here (SelfId s) f rest = let fits : s.speed < 2 ^ 2 = f.fields.2.2.2.2.2.1 in go (s.phy == n) fits rest
      where
        go : (b : Bool) → s.speed < 4 → speed_of n ps < 4 → cond b s.speed (speed_of n ps) < 4
        go true x y = x
        go false x y = y
    here (SelfIdMore s) f rest = rest
    here (Config root force_root set_gap gap) f rest = rest
    here (LinkOn phy) f rest = rest

pub fits_network : (r : ResetEntry) → ResetFits r → IsNetwork r
fits_network r f = record {
  range = λ n row e. let w = f.rows n row (slice_get_within r.nodes n row e) in let same = get_or_from_slice_get r.nodes n row row e in let fits : RowFits row = subst (λ v. RowFits v) same w in
      (fits.device, fits.outs, fits.ins);
  speeds = λ n. speeds_fit n r.ids f.packets;
}

pub next_keeps : (l m : Account) (e : Entry) → Fits e → IsSound l → next_account l e ≡ Some m → IsSound m
next_keeps l m (Reset r) f s e = let same : after_reset r l ≡ m = cc in rw (← same) (reset_keeps r l (fits_network r f) s)
next_keeps l m (Async p) f s e = packet_keeps p l m s e
next_keeps l m (Iso p) f s e = unchanged l m s e
next_keeps l m (Event v) f s e = event_keeps v l m s e
next_keeps l m (Outcome o) f s e = unchanged l m s e
next_keeps l m (Shown v) f s e = unchanged l m s e
next_keeps l m End f s e = unchanged l m s e

-- ---- lists of entries

none_at_first : has_connection no_connections ≡ false
none_at_first = grind (arith, nat_tests, sum_to_zero 63)

pub starts_sound : IsSound no_account
starts_sound = record {
  load = omega (arith, sum_to_zero 64);
  bounded = λ ch x e. grind arith;
  allocated = λ p t. grind (arith, none_at_first);
  connected = λ ch p u e. grind arith;
  one_pending = λ c a b x y. grind arith;
  for_addressed = λ c ch p u e. grind arith;
  reclaimable_once = λ a b p u v x y. grind arith;
  reclaimable_load = omega (arith, sum_to_zero 64);
  reclaimable_bounded = λ ch f e. grind arith;
  reclaimable_ends = λ e ch. refl;
  begins = λ e. record {
    no_second = refl;
    allocations = λ ch. refl;
    outputs = λ p. none_at_first;
    inputs = λ p. none_at_first;
    continues = λ p. refl;
    addressed = λ c. refl;
    outstanding = λ c. refl;
  };
  there = λ p t. grind (arith, none_at_first);
  inputs_there = λ p t. grind (arith, none_at_first);
  continuing = λ p t. grind arith;
  reclaimed = λ t ch x e. grind arith;
  counts = λ p. grind (arith, sum_to_zero 63);
  controllers = λ p c le. (refl, refl);
  range = λ n row e. absurd (not_both None row refl e);
  settings_fit = λ p t. absurd (false≢true t);
  channels_fit = λ p t. absurd (false≢true t);
  withheld_unallocated = λ ch w. refl;
  withheld_unclaimed = λ ch w. refl;
}

-- entries in two parts
pub account_from-append : (xs ys : List Entry) (o : Option Account) → account_from o (xs ++ ys) ≡ account_from (account_from o xs) ys
account_from-append [] ys o = refl
account_from-append (e ∷ es) ys o = account_from-append es ys (next_of o e)

-- if there is no account there is none later
pub none_stays : (es : List Entry) → account_from None es ≡ None
none_stays [] = refl
none_stays (e ∷ es) = none_stays es

from_keeps : (es : List Entry) (l m : Account) → All Fits es → IsSound l → account_from (Some l) es ≡ Some m → IsSound m
from_keeps [] l m f s e = unchanged l m s e
from_keeps (x ∷ xs) l m f s e = go (next_account l x) refl (λ k. from_keeps xs k m (λ j d lt. f (suc j) d (omega arith))) e
  where
    go : (o : Option Account) → next_account l x ≡ o → ((k : Account) → IsSound k → account_from (Some k) xs ≡ Some m → IsSound m) → account_from o xs ≡ Some m → IsSound m
    go None n later g = absurd (not_both None m refl (sym (none_stays xs) ∙ g))
    go (Some k) n later g = later k (next_keeps l k x (f 0 x (omega arith)) s n) g

pub account_sound : (es : List Entry) (m : Account) → All Fits es → account_of es ≡ Some m → IsSound m
account_sound es m f e = from_keeps es no_account m f starts_sound e

-- at each prefix of entries that have an account there is one, and it is sound
pub prefix_sound : (before later : List Entry) (m : Account) → All Fits before → account_of (before ++ later) ≡ Some m → (k : Account) × (account_of before ≡ Some k) × IsSound k
prefix_sound before later m f e = go (account_of before) refl (sym (account_from-append before later (Some no_account)) ∙ e)
  where
    go : (o : Option Account) → account_of before ≡ o → account_from o later ≡ Some m → (k : Account) × (account_of before ≡ Some k) × IsSound k
    go None n g = absurd (not_both None m refl (sym (none_stays later) ∙ g))
    go (Some k) n g = (k, n, account_sound before k f n)
