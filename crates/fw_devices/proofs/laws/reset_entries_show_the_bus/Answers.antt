use Rattle.fw_devices.proofs.EntryLaws.{entry_shows, entry_fits, entry_of_lone_deck}
use Rattle.fw_devices.proofs.laws.reset_entries_show_the_bus.Goals as goal

pub returns-clause-shows : goal.returns-clause-shows
returns-clause-shows c = entry_shows

pub returns-clause-fits : goal.returns-clause-fits
returns-clause-fits c = entry_fits

pub returns-clause-lone : goal.returns-clause-lone
returns-clause-lone c = entry_of_lone_deck
