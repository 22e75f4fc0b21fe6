-- Events of devices, and words of their registers, that may be written.
use Rattle.fw_model_run.proofs.Common.{ℕ, ◌+◌, ◌^◌, ◌<◌, length, None, Some, refl, arith, IsTrue}
use Rattle.fw_model_run.proofs.Common.{sound_made, node_of, first_address, shown_entry, IsGood, HasNumbers, read_at, State, is_deaf, is_linked}
use Rattle.fw_log_entry.specs.Log.{is_event}
use Rattle.fw_log_entry.specs.declared.codes.event.TheConstants.{INSERTED}
use Rattle.fw_tape.specs.declared.system.TapeSystem.{TapeSystem}
use Rattle.fw_tape.specs.declared.system.TapeSystem.TheVariants.{Lines525, Lines625}
use Rattle.fw_model_run.specs.Entries.{ejected, inserted, lines_of, lost}
use Rattle.fw_model_run.proofs.Bounds.{space_fits}
use Rattle.fw_model_run.proofs.Buses.{linked_small}
use Rattle.fw_model_run.proofs.Events.{living_small}
use Rattle.fw_model_run.proofs.Fitting.{EntryFits}
use Rattle.fw_model_run.proofs.HalfSteps.{deaf_lives}
use Rattle.fw_model_run.proofs.Leads.{linked_of}
use Rattle.fw_model_run.proofs.Transactions.{linked_number_of}

pub linked_few : (s : State) (d : ℕ) → IsGood s → IsTrue (is_linked s d) → d < 63
linked_few s d g on = let x = linked_of s d g on in linked_small s x.entry d x.number x.shows.1 x.linked

-- a declared device has a number below 63
pub declared_few : (s : State) (d : ℕ) → IsGood s → d < length s.declared.names → d < 2 ^ 8
declared_few s d g low = let few = (sound_made s.declared.topology g.declared.made).few in let same = g.declared.named in omega (arith, low, few, same)

pub lost_fits : (s : State) (d : ℕ) → IsGood s → IsTrue (is_deaf s d) → EntryFits (Some (lost d))
lost_fits s d g deaf = record { device = let few = living_small s d g (deaf_lives s d g deaf) in omega (arith, few); tape = omega arith; shape = refl }

inserted_shape : (d tape : ℕ) (system : TapeSystem) → IsTrue (is_event INSERTED d tape (lines_of system))
inserted_shape d tape Lines525 = refl
inserted_shape d tape Lines625 = refl

pub inserted_fits : (s : State) (d tape : ℕ) (system : TapeSystem) → IsGood s → d < length s.declared.names → tape < 2 ^ 16 → EntryFits (Some (inserted d tape system))
inserted_fits s d tape system g low few = record { device = declared_few s d g low; tape = few; shape = inserted_shape d tape system }

pub ejected_fits : (s : State) (d : ℕ) → IsGood s → d < length s.declared.names → EntryFits (Some (ejected d))
ejected_fits s d g low = record { device = declared_few s d g low; tape = omega arith; shape = refl }

pub shown_fits : (s : State) (d offset : ℕ) → IsGood s → HasNumbers s → IsTrue (is_linked s d) → offset < 2 ^ 12 → EntryFits (Some (shown_entry d offset (read_at s d offset).value))
shown_fits s d offset g b on low = record {
  device = let few = linked_few s d g on in omega (arith, few);
  offset = low;
  word = (space_fits s d (node_of s.account.latest d) (first_address + offset) None g b.bus_manager_id (linked_number_of s d g on)).value;
}
