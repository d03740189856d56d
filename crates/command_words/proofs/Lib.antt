mod OneFault
mod FaultAnswers
pub mod ValueReads
mod Matched
mod Forms
mod FirstWords
mod TopicWords
mod Worked
