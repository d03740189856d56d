pub mod SpanEnds
