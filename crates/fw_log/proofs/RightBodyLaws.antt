-- Bodies of bus resets that are the same but for the epoch.
use Rattle.fw_log.proofs.Common.{◌≡◌, ℕ, ◌≤◌, ◌<◌, ◌^◌, List, ◌++◌, length, drop, arith, refl, ap, ◌∙◌, take-append-drop, AreBytes, to_be_bytes, w32, quadlet_at, body, Reset}
use Rattle.std.proofs.lemmas.List.{length-drop}
use Rattle.fw_log_entry.specs.Log.{ResetFits}
use Rattle.fw_log_entry.specs.declared.entry.ResetEntry.{ResetEntry}
use Rattle.fw_log.specs.Plain.{IsReset, EndsReset}
use Rattle.fw_async_fields.proofs.SoundLaws.{below}
use Rattle.fw_log.proofs.PlainResetLaws.{quad_back}

-- any epoch will do that has four bytes
with_epoch : (r : ResetEntry) (n : ℕ) → ResetFits r → n < 2 ^ 32 → ResetFits (record r { epoch = n })
with_epoch r n f small = record {
  epoch = small;
  some = f.some;
  few = f.few;
  root = f.root;
  manager = f.manager;
  initiator = f.initiator;
  rows = f.rows;
  apart = f.apart;
  packets = f.packets;
  few_packets = f.few_packets;
  ids = f.ids;
}

-- it comes first
begins : (r : ResetEntry) (n : ℕ) → body (Reset (record r { epoch = n })) ≡ to_be_bytes w32 n ++ drop 4 (body (Reset r))
begins r n = refl

pub reset_again : (bytes later : List ℕ) → AreBytes bytes → 4 ≤ length bytes → EndsReset later → later ≡ drop 4 bytes → IsReset bytes
reset_again bytes later fit long h e =
    let n : ℕ = quadlet_at bytes 0 in
    record {
      reset = record h.reset { epoch = n };
      fits = with_epoch h.reset n h.fits (below bytes 0 fit);
      same = begins h.reset n ∙ ap (λ t. to_be_bytes w32 n ++ t) (h.same ∙ e) ∙ ap (λ t. t ++ drop 4 bytes) (quad_back bytes 0 fit long)
          ∙ take-append-drop 4 bytes;
    }

pub ends_reset : (bytes : List ℕ) → IsReset bytes → EndsReset (drop 4 bytes)
ends_reset bytes h = record { reset = h.reset; fits = h.fits; same = ap (drop 4) h.same }

pub some_later : (bytes later : List ℕ) → 8 ≤ length bytes → later ≡ drop 4 bytes → 0 < length later
some_later bytes later long e = omega (arith, ap length e, length-drop 4 bytes)
