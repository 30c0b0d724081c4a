use Rattle.dk_wal.proofs.LogLemmas.{good_log}
use Rattle.dk_wal.proofs.scanning.scan_log.Goals as goal

pub returns-in_ok-scan_records-in-Ok-false : goal.returns-in_ok-scan_records-in-Ok-false
returns-in_ok-scan_records-in-Ok-false c =
    good_log c.args.tables.now c.args.iteration c.args.log.now c.in-Ok-false.field-0 c.in_ok-scan_records-in-Ok-false.field-0
    c.in-Ok-false.ensures c.in-Ok-false.field-0-test c.in_ok-scan_records-in-Ok-false.ensures
