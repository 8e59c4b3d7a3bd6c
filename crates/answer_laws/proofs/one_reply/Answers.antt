use Rattle.answer_laws.proofs.Replies.{one_reply_told, one_reply_unread}
use Rattle.answer_laws.proofs.one_reply.Goals as goal

pub returns-clause-unread : goal.returns-clause-unread
returns-clause-unread c words input a b reads = one_reply_unread reads

pub returns-clause-told : goal.returns-clause-told
returns-clause-told c words left a b = one_reply_told
