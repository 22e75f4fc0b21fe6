-- The bytes of entries, one list after another.
use Rattle.std.proofs.Common.{◌≡◌, ℕ, List, [], ◌∷◌, ◌++◌, refl, ap, sym, ◌∙◌, append_assoc, append-nil}
use Rattle.fw_log_entry.specs.Log.{epoch_after, latest_epoch, entry_bytes, entries_bytes}
use Rattle.fw_log_entry.specs.declared.entry.Timed.{Timed}
use Rattle.fw_log_entry.specs.declared.version.Version.{Version}

pub latest_append : (epoch : ℕ) (xs ys : List Timed) → latest_epoch epoch (xs ++ ys) ≡ latest_epoch (latest_epoch epoch xs) ys
latest_append epoch [] ys = refl
latest_append epoch (x ∷ xs) ys = latest_append (epoch_after epoch x.what) xs ys

pub entries_append : (v : Version) (epoch : ℕ) (xs ys : List Timed) → entries_bytes v epoch (xs ++ ys) ≡ entries_bytes v epoch xs ++ entries_bytes v (latest_epoch epoch xs) ys
entries_append v epoch [] ys = refl
entries_append v epoch (x ∷ xs) ys =
    let n : ℕ = epoch_after epoch x.what in
    ap (λ t. entry_bytes v n x ++ t) (entries_append v n xs ys) ∙ sym (append_assoc (entry_bytes v n x) (entries_bytes v n xs) (entries_bytes v (latest_epoch n xs) ys))

-- one entry more
pub entries_push : (v : Version) (epoch : ℕ) (xs : List Timed) (t : Timed)
    → entries_bytes v epoch (xs ++ t ∷ []) ≡ entries_bytes v epoch xs ++ entry_bytes v (epoch_after (latest_epoch epoch xs) t.what) t
entries_push v epoch xs t =
    entries_append v epoch xs (t ∷ []) ∙ ap (λ x. entries_bytes v epoch xs ++ x) (append-nil (entry_bytes v (epoch_after (latest_epoch epoch xs) t.what) t))
