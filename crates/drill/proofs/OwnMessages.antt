-- The assessor's messages, as they are sent and as they are read.
pub mod CountedMessages
pub mod HeadLines
pub mod OwnAsks
pub mod OwnRequests
pub mod SentMessages
pub mod SentTexts
