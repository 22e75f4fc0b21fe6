-- A bus reset that tells what another told, but for its epoch; and what a reader's answer says of a bus reset.
use Rattle.std.proofs.Common.{◌≡◌, ℕ, ◌-◌, ◌≤◌, List, ◌++◌, length, take, drop, arith, refl, ap, sym, ◌∙◌}
use Rattle.std.proofs.lemmas.List.{take_all, length-drop}
use Rattle.std.specs.Int.{to_be_bytes, w32}
use Rattle.fw_words.specs.Quadlet.{quadlet_at}
use Rattle.fw_log_entry.specs.Log.{ResetFits, body}
use Rattle.fw_log_entry.specs.declared.entry.Entry.TheVariants.{Reset}
use Rattle.fw_log_entry.specs.declared.entry.ResetEntry.{ResetEntry}
use Rattle.fw_log_latest.specs.Latest.{IsBusOf, TellsBus}
use Rattle.fw_log.proofs.IdsLaws.{back}
use Rattle.fw_log.proofs.ResetLaws.{same_reset, shape_of}

-- with another epoch that a fitting reset has
pub fits_with : (r s : ResetEntry) → ResetFits r → ResetFits s → ResetFits (record r { epoch = s.epoch })
fits_with r s f g = record {
  epoch = g.epoch;
  some = f.some;
  few = f.few;
  root = f.root;
  manager = f.manager;
  initiator = f.initiator;
  rows = f.rows;
  apart = f.apart;
  packets = f.packets;
  few_packets = f.few_packets;
  ids = f.ids;
}

-- the epoch comes first
begins : (r : ResetEntry) (n : ℕ) → body (Reset (record r { epoch = n })) ≡ to_be_bytes w32 n ++ drop 4 (body (Reset r))
begins r n = refl

-- so the bytes after it are the same whatever it is
pub later_same : (r : ResetEntry) (n : ℕ) → drop 4 (body (Reset (record r { epoch = n }))) ≡ drop 4 (body (Reset r))
later_same r n = refl

pub epoch_at : (s : ResetEntry) (bytes : List ℕ) → ResetFits s → body (Reset s) ≡ bytes → quadlet_at bytes 0 ≡ s.epoch
epoch_at s bytes f e = ap (λ (t : List ℕ). quadlet_at t 0) (sym e) ∙ back s.epoch (drop 4 (body (Reset s))) f.epoch

-- a body has at least eight bytes
pub long : (r : ResetEntry) (bytes : List ℕ) → body (Reset r) ≡ bytes → 8 ≤ length bytes
long r bytes e = omega (arith, ap length e, ap length (begins r r.epoch), length-drop 4 (body (Reset r)))

-- the bytes after so many, and those after the epoch
pub rest_is : (n : ℕ) (bytes : List ℕ) → take (length bytes - n) (drop n bytes) ≡ drop n bytes
rest_is n bytes = take_all (length bytes - n) (drop n bytes) (omega (arith, length-drop n bytes))

pub later_is : (bytes : List ℕ) → take (length bytes - 4) (drop 4 bytes) ≡ drop 4 bytes
later_is = rest_is 4

-- with the epoch of the bytes it is the reset whose body they are
pub again_is : (r s : ResetEntry) (bytes later : List ℕ) (n : ℕ) → ResetFits r → ResetFits s → body (Reset s) ≡ bytes → drop 4 (body (Reset r)) ≡ later → later ≡ drop 4 bytes
    → n ≡ quadlet_at bytes 0 → record r { epoch = n } ≡ s
again_is r s bytes later n f g e d l m =
    let t : ResetEntry = record r { epoch = s.epoch } in
    let same : body (Reset t) ≡ body (Reset s) = ap (λ (x : List ℕ). to_be_bytes w32 s.epoch ++ x) (d ∙ l ∙ ap (drop 4) (sym e)) in
    ap (λ (k : ℕ). record r { epoch = k }) (m ∙ epoch_at s bytes g e) ∙ same_reset t s (shape_of t (fits_with r s f g)) (shape_of s g) same

-- one whose body goes on as that of the latest has its nodes, with another epoch
pub renewed : (bus s : ResetEntry) (bytes later : List ℕ) (n : ℕ) → TellsBus bus later → ResetFits s → body (Reset s) ≡ bytes → later ≡ drop 4 bytes → n ≡ quadlet_at bytes 0
    → IsBusOf s (record bus { epoch = n })
renewed bus s bytes later n x g e l m =
    let is = again_is x.reset s bytes later n x.fits g e x.same l m in record {
      epoch = sym (m ∙ epoch_at s bytes g e);
      manager = sym (ap (λ (r : ResetEntry). r.manager) is) ∙ x.told.manager;
      initiator = sym (ap (λ (r : ResetEntry). r.initiator) is) ∙ x.told.initiator;
      nodes = sym (ap (λ (r : ResetEntry). r.nodes) is) ∙ x.told.nodes;
    }

-- with the epoch of the bytes the bus is still that of the body
pub still : (bus : ResetEntry) (later : List ℕ) (s : ResetEntry) (bytes : List ℕ) (n : ℕ) → TellsBus bus later → ResetFits s → body (Reset s) ≡ bytes → later ≡ drop 4 bytes → n ≡ quadlet_at bytes 0
    → TellsBus (record bus { epoch = n }) later
still bus later s bytes n x g e l m =
    record { reset = s; fits = g; same = ap (drop 4) e ∙ sym l; told = renewed bus s bytes later n x g e l m }
