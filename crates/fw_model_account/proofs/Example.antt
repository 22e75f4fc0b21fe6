-- The accounts of the example, computed.
use Rattle.fw_model_account.proofs.Common.{◌≡◌, Some, None, [], ◌∷◌, refl, sum_to}
use Rattle.fw_terms.specs.Tables.{find_to}
use Rattle.fw_model_account.specs.Fold.{account_of}
use Rattle.fw_model_account.specs.Example.{first_path, restored, other_channel, second_over, reset, registers_after, not_allocated, listening, input_after, died}

pub first_path_registers : registers_after first_path ≡ Some (2403 ∷ 0xfffffffe ∷ 0xc03f007a ∷ [])
unfolding sum_to find_to
first_path_registers = refl

pub restored_registers : registers_after restored ≡ Some (2403 ∷ 0xfffffffe ∷ 0xc03f007a ∷ [])
unfolding sum_to find_to
restored_registers = refl

pub other_channel_refused : account_of other_channel ≡ None
unfolding sum_to find_to
other_channel_refused = refl

pub no_second : account_of (reset 1 ∷ second_over ∷ []) ≡ None
no_second = refl

pub not_allocated_refused : account_of not_allocated ≡ None
unfolding sum_to find_to
not_allocated_refused = refl

pub listening_input : input_after listening ≡ Some 0xc03f0000
unfolding sum_to find_to
listening_input = refl

pub died_registers : registers_after died ≡ Some (2403 ∷ 0xfffffffe ∷ 0xc03f007a ∷ [])
unfolding sum_to find_to
died_registers = refl
