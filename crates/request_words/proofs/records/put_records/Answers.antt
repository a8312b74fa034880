-- `request_words::records::put_records` meets its contract.
-- Assumes nothing.
use Rattle.request_words.proofs.Writing.{records-put}
use Rattle.request_words.proofs.records.put_records.Goals as goal

pub returns : goal.returns
returns c = let p = records-put _ _ _ _ _ _ _ _ _ c.put_device.ensures c.put_options-options.ensures c.put_label-label.ensures c.put_uuid.ensures in
    record { value = p.0; buf_after = p.1 }
