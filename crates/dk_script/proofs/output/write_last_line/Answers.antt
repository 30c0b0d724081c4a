-- The text that is written is the status's last line.
use Rattle.dk_script.proofs.output.write_last_line.Goals as goal

pub returns-in-Usage-clause-err : goal.returns-in-Usage-clause-err
returns-in-Usage-clause-err g c = rw c.in-Usage.is c.write_all.ensures.err

pub returns-in-ReadFault-clause-ok : goal.returns-in-ReadFault-clause-ok
returns-in-ReadFault-clause-ok g c = rw c.in-ReadFault.is c.write_all-in-ReadFault.ensures.ok

pub returns-in-ReadFault-clause-err : goal.returns-in-ReadFault-clause-err
returns-in-ReadFault-clause-err g c = rw c.in-ReadFault.is c.write_all-in-ReadFault.ensures.err
